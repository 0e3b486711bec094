-- `filter::fill_table` meets its contract. The loop's invariant: k entries of the table are pasted. Assumes nothing.
use native.Mathlib.Omega.{arith}
use Rattle.filter.proofs.Mirrors.{stored, next_fits}
use Rattle.filter.proofs.fill_table.Goals as goal

pub entry-requires : goal.entry-requires
entry-requires c = next_fits _ _ _ _ c.requires c.loop-k.invariant (omega arith)

pub loop-k-preserved : goal.loop-k-preserved
loop-k-preserved c = stored _ _ _ _ c.requires c.loop-k.invariant (omega arith) _ c.entry.ensures

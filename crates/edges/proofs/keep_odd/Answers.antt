-- `edges::keep_odd` meets its contract: nothing is left of an even count, one byte of an odd one (`proofs/Laws.antt`). Assumes nothing.
use native.Mathlib.Omega.{arith}
use Rattle.edges.proofs.Laws.{none_odd, one_odd}
use Rattle.edges.proofs.keep_odd.Goals as goal

pub returns-then-n-eq0 : goal.returns-then-n-eq0
returns-then-n-eq0 c = record { bytes_after = none_odd c.args.bytes.now c.if-n-eq0.true; value = omega arith }

pub returns : goal.returns
returns c = record { bytes_after = one_odd c.args.bytes.now (omega arith); value = omega arith }

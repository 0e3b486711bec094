-- `lanes::lay_row` meets its contract. The invariant: the samples before sample t stand in the row, up to entry i. Assumes nothing.
use Prim.Native.Nat.{◌<◌}
use native.Mathlib.Omega.{arith}
use lib.ListN.{length}
use Rattle.lanes.proofs.Rows.{row_inside, row_goes_on, row_ends}
use Rattle.lanes.proofs.lay_row.Goals as goal
use Rattle.lanes.proofs.lay_row.Goals.{In-loop-t}

-- the turn's sample has an entry
inside : (c : In-loop-t) → c.loop-t.i < length c.loop-t.x
inside c =
    omega (arith, row_inside _ _ _ _ _ c.loop-t.invariant c.requires c.loop-t-test.true, c.loop-t.invariant.long)

pub loop-t-preserved : goal.loop-t-preserved
loop-t-preserved c = row_goes_on _ _ _ _ _ c.loop-t.invariant (inside (goal.at-loop-t-preserved c).In-loop-t)

pub returns-2 : goal.returns-2
returns-2 c =
    row_ends _ _ _ _ _ (row_goes_on _ _ _ _ _ c.loop-t.invariant (inside (goal.at-returns-2 c).In-loop-t)) (omega arith)

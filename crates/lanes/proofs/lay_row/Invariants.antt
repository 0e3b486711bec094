-- `lanes::lay_row` meets its contract. The invariant: the samples before sample t stand in the row, up to entry i. Assumes nothing.
use Rattle.lanes.proofs.Rows.{RowLaying}
use Rattle.lanes.proofs.lay_row.Given as goal

abbrev pub invariant-loop-t : goal.invariant-loop-t
invariant-loop-t l = RowLaying l.initial.x l.x l.window l.start l.from l.num l.i l.t

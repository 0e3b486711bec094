-- `lanes::lay_out` meets its contract. The invariant: the rows before `row` are laid out. Assumes nothing.
use mathlib.Core.Path.{◌≡◌}
use lib.ListN.{length}
use Rattle.lanes.proofs.Rows.{RowsWoven}
use Rattle.lanes.proofs.lay_out.Given as goal

abbrev pub invariant-loop-row : goal.invariant-loop-row
invariant-loop-row l = (length l.x ≡ length l.initial.x) × RowsWoven l.x l.window l.num l.stride l.reach l.row

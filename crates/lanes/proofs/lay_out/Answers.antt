-- `lanes::lay_out` meets its contract. The invariant: the rows before `row` are laid out. Assumes nothing.
use mathlib.Core.Path.{refl, ◌∙◌}
use Rattle.lanes.proofs.Rows.{rows_more}
use Rattle.lanes.proofs.lay_out.Goals as goal

pub loop-row-preserved : goal.loop-row-preserved
loop-row-preserved c =
    let v = c.loop-row.invariant in
    let laid = c.lay_row.ensures in
    (laid.long ∙ v.0, rows_more _ _ _ _ _ c.requires.columns refl v.1 laid)

-- `abreast::Windows::rows_by_fours` meets its contract. The invariant: the sums are those of the taps so far, four to a turn. Assumes nothing.
use Rattle.std.proofs.Common.{◌≡◌, ◌*◌}
use Rattle.abreast.specs.Rows.{four_rows}
use Rattle.abreast.proofs.Windows.rows_by_fours.Given as goal

abbrev pub invariant-loop-turn : goal.invariant-loop-turn
invariant-loop-turn l = l.sums ≡ four_rows l.self (l.turn * 4) l.row

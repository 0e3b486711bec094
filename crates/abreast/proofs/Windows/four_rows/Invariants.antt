-- `abreast::Windows::four_rows` meets its contract. The invariant: the sums are those of the first j taps. Assumes nothing.
use Rattle.std.proofs.Common.{◌≡◌}
use Rattle.abreast.specs.Rows.{four_rows}
use Rattle.abreast.proofs.Windows.four_rows.Given as goal

abbrev pub invariant-loop-j : goal.invariant-loop-j
invariant-loop-j l = l.sums ≡ four_rows l.self l.j l.row

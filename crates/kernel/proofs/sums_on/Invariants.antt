-- `kernel::sums_on` meets its contract. The invariant: the sums are those of the first j samples, and the index is where the coefficients of
-- sample j start. Assumes nothing.
use Rattle.std.proofs.Common.{◌≡◌}
use Rattle.kernel.specs.Interpolated.{tap, four_sums}
use Rattle.kernel.proofs.sums_on.Given as goal

abbrev pub invariant-loop-j : goal.invariant-loop-j
invariant-loop-j l = (l.idx ≡ tap l.oversample l.offset l.j) × (l.accum ≡ four_sums l.oversample l.offset l.j l.coefs l.window)

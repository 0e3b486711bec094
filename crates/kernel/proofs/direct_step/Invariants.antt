-- `kernel::direct_step` meets its contract. The invariant: the sum is that of the first j products. Assumes nothing.
use Rattle.std.proofs.Common.{◌≡◌}
use Rattle.kernel.specs.Sums.{direct_sum}
use Rattle.kernel.proofs.direct_step.Given as goal

abbrev pub invariant-loop-j : goal.invariant-loop-j
invariant-loop-j l = l.sum ≡ direct_sum l.j l.coefs l.window

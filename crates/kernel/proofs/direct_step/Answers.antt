-- `kernel::direct_step` meets its contract. Assumes nothing.
use Rattle.std.proofs.Common.{refl}
use lib.Ieee.{of_bits}
use Rattle.kernel.specs.Sums.{sum_to}
use Rattle.kernel.proofs.Turns.{sum_turn}
use Rattle.kernel.proofs.direct_step.Goals as goal

pub loop-j-init : goal.loop-j-init
unfolding sum_to of_bits
loop-j-init c = refl

pub loop-j-preserved : goal.loop-j-preserved
loop-j-preserved c = sum_turn _ _ c.loop-j.invariant

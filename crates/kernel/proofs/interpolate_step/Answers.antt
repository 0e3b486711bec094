-- `kernel::interpolate_step` meets its contract: over no samples the four sums are 0.0. Assumes nothing.
use Rattle.std.proofs.Common.{refl}
use lib.Ieee.{of_bits}
use Rattle.kernel.specs.Interpolated.{four_sums}
use Rattle.kernel.proofs.interpolate_step.Goals as goal

pub sums_on-accum-requires-clause-sums_value : goal.sums_on-accum-requires-clause-sums_value
unfolding four_sums of_bits
sums_on-accum-requires-clause-sums_value c = refl

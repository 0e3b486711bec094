-- `kernel::cubic_coef` meets its contract: the steps are the definition's, and each constant is the decimal that it names, which antt computes.
-- Assumes nothing.
use lib.Ieee.{sub, of_bits}
use Rattle.math.specs.Numerals.{decimal32}
use Rattle.kernel.specs.Cubic.{cubic_coef}
use Rattle.kernel.proofs.cubic_coef.Goals as goal

pub returns : goal.returns
unfolding cubic_coef decimal32 sub of_bits
returns c = rw c.third_weight-c.ensures

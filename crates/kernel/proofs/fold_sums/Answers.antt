-- `kernel::fold_sums` meets its contract: the fold is the definition's, over the weights that `cubic_coef` ensures. Assumes nothing.
use lib.Ieee.{of_bits}
use Rattle.kernel.specs.Interpolated.{folded}
use Rattle.kernel.proofs.fold_sums.Goals as goal

pub returns : goal.returns
unfolding folded of_bits
returns c = rw c.cubic_coef-interp.ensures

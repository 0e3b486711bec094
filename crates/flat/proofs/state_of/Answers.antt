-- `flat::state_of` meets its contract: the kernel of its number, the rest as it is. Assumes nothing.
use Rattle.flat.specs.Flat.{state_of}
use Rattle.flat.proofs.state_of.Goals as goal

pub returns : goal.returns
unfolding state_of
returns c = rw c.kernel_at.ensures

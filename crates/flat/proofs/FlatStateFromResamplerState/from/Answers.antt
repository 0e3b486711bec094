-- A state's numbers are as it has them: the kernel by its number, the rest as it is. Assumes nothing.
use Rattle.flat.specs.Flat.{flat_of}
use Rattle.flat.proofs.FlatStateFromResamplerState.from.Goals as goal

pub returns : goal.returns
unfolding flat_of
returns c = rw c.kernel_number.ensures

-- `pcm::known_version` meets its contract. Assumes nothing.
use mathlib.Core.Path.{refl}
use Rattle.pcm.specs.Header.{known_version}
use Rattle.pcm.proofs.known_version.Goals as goal

pub returns : goal.returns
unfolding known_version
returns c = refl

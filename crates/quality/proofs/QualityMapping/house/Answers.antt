-- `quality::QualityMapping::house` meets its contract: antt works out the decimals. Assumes nothing.
use mathlib.Core.Path.{refl}
use lib.Ieee.{of_bits}
use Rattle.quality.specs.House.{house}
use Rattle.quality.proofs.QualityMapping.house.Goals as goal

pub returns : goal.returns
unfolding house of_bits
returns c = refl

-- The house row is sane. Assumes nothing.
use mathlib.Core.Path.{refl}
use native.Mathlib.Omega.{arith}
use Rattle.quality.specs.Quality.{Sane}
use Rattle.quality.specs.House.{house}

pub house_sane : Sane house
unfolding house
house_sane =
    record {
      base_by_8 = refl;
      base_from = omega arith;
      base_to = omega arith;
      oversample_from = omega arith;
      oversample_to = omega arith;
      down = refl;
      up = refl;
    }

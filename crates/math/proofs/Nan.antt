-- A NaN gets through every sum and every product. Assumes nothing.
use mathlib.Core.Path.{◌≡◌, refl}
use lib.Ieee.{Float, nan, inf, fin, Format, add, mul}

-- whatever it is added to
pub add_nan : (f : Format) (x : Float) → add f x nan ≡ nan
unfolding add
add_nan f nan = refl
add_nan f (inf s) = refl
add_nan f (fin s m e) = refl

-- whatever is multiplied by it
pub mul_nan : (f : Format) (x : Float) → mul f x nan ≡ nan
unfolding mul
mul_nan f nan = refl
mul_nan f (inf s) = refl
mul_nan f (fin s m e) = refl

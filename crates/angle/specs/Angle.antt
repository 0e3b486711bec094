-- Document 01, "Coefficients", its paragraph "Sine (added)": up to which size of an angle the sine is given, and that a setting's coefficients ask for no other. Assumes nothing.
use Rattle.std.specs.Prelude.{◌≡◌, true, false, ℕ, ◌<◌, Float}
use Rattle.std.specs.Float.Ieee.{is_nan, le}
use Rattle.math.specs.Numerals.{as_f64}
use Rattle.math.specs.Sign.{magnitude}
use Rattle.sinc.specs.Sinc.{angle_at, far}
use Rattle.rates.specs.declared.Setting.{Setting}
use Rattle.filter.specs.Settings.{coordinate_of}

-- the largest size of an angle for which the sine is given
abbrev pub sine_reach : ℕ
sine_reach = 256

-- what is claimed of the coordinate x of an entry: it is a number and, if it is not far, its angle is at most that size; if it is far, no sine is taken
pub record InReach (s : Setting) (x : Float) : Type 0 where
  pub number : is_nan x ≡ false
  pub angle : far x s.filt_len ≡ false → le (magnitude (angle_at s.cutoff x)) (as_f64 sine_reach) ≡ true

-- every entry of a setting's table has such a coordinate. The house row and any two rates in limits give such a setting, as `proofs/Angle.antt` proves
abbrev pub AnglesInReach : Setting → Type 0
AnglesInReach s = (k : ℕ) → k < s.coefs → InReach s (coordinate_of s k)

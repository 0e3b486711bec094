-- Document 01, "Coefficients": one coefficient. An f32 stands for the same number as an f64, so nothing is written where one is widened.
-- Assumes nothing.
use Rattle.std.specs.Prelude.{◌≡◌, ℕ, ◌<◌, Bool, false, cond, is_nan, Float}
use Rattle.std.specs.Float.Ieee.{lt}
use Rattle.casts.specs.Narrowed.{narrowed}
use Rattle.math.specs.Numerals.{nought, as_f64, decimal64}
use Rattle.math.specs.Operators.{◌*ᵈ◌, ◌/ᵈ◌, ◌*ᶠ◌}
use Rattle.math.specs.Sign.{magnitude}
use Rattle.sine.specs.Sine.{C, sine_at}
use Rattle.window.specs.Window.{window_at}

-- where the window is asked for x, with a filter of length n: |2 x / n| rounded to f32
unfoldable pub place_at : Float → ℕ → Float
place_at x n = narrowed (magnitude (as_f64 2 *ᵈ x /ᵈ as_f64 n))

-- the angle whose sine is taken: pi times the f32 product of x and cutoff
abbrev pub angle_at : Float → Float → Float
angle_at cutoff x = C *ᵈ (x *ᶠ cutoff)

-- (cutoff * sin(angle)) / angle, times the window, rounded to f32
unfoldable pub windowed_sinc : Float → Float → ℕ → Float
windowed_sinc cutoff x n =
    let angle = angle_at cutoff x in
    narrowed (cutoff *ᵈ sine_at angle /ᵈ angle *ᵈ window_at (place_at x n))

-- whether |x| > n/2; a NaN is not
abbrev pub far : Float → ℕ → Bool
far x n = lt (decimal64 1 5 *ᵈ as_f64 n) (magnitude x)

-- the coefficient at x: with |x| < 0.000001 cutoff, zero where x is far, else the windowed sinc
unfoldable pub sinc_at : Float → Float → ℕ → Float
sinc_at cutoff x n =
    cond (lt (magnitude x) (decimal64 6 1)) cutoff
    (cond (far x n) nought
    (windowed_sinc cutoff x n))

-- what is asked where the coefficient at y is known: neither coordinate is a NaN, whose bits no test may read
pub record MirrorFits (cutoff x : Float) (n : ℕ) (y known : Float) : Type 0 where
  pub n_some : 0 < n
  pub x_real : is_nan x ≡ false
  pub y_real : is_nan y ≡ false
  pub is_known : known ≡ sinc_at cutoff y n

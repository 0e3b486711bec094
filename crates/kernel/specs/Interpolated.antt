-- Document 01, "One output, one call": four sums over the n samples, and their fold. Assumes nothing.
use Rattle.std.specs.Prelude.{ℕ, zero, suc, ◌+◌, ◌-◌, ◌*◌, ◌≤◌, List, [], ◌∷◌, Float}
use Rattle.math.specs.Operators.{◌+ᶠ◌, ◌*ᶠ◌}
use Rattle.math.specs.Numerals.{nought}
use Rattle.kernel.specs.Sums.{at}
use Rattle.kernel.specs.Cubic.{cubic_coef}

-- the first of the four coefficients that sample j meets
abbrev pub tap : ℕ → ℕ → ℕ → ℕ
tap oversample offset j = 2 + (j + 1) * oversample - offset

-- a table of `size` coefficients holds those of n samples. That oversample is at most `size` says something only at n = 0, where nothing else bounds it
abbrev pub TapsWithin : ℕ → ℕ → ℕ → ℕ → Type 0
TapsWithin n oversample offset size = (n * oversample + 8 ≤ size) × (oversample ≤ size) × (offset ≤ oversample)

-- the four sums s with sample x times the four coefficients from i on added to them
abbrev pub spread : List Float → Float → List Float → ℕ → List Float
spread s x coefs i =
    (at s 0 +ᶠ x *ᶠ at coefs i)
    ∷ (at s 1 +ᶠ x *ᶠ at coefs (i + 1))
    ∷ (at s 2 +ᶠ x *ᶠ at coefs (i + 2))
    ∷ (at s 3 +ᶠ x *ᶠ at coefs (i + 3))
    ∷ []

-- the four sums over the first n samples, from 0.0, j ascending
unfoldable pub four_sums : ℕ → ℕ → ℕ → List Float → List Float → List Float
four_sums oversample offset zero coefs window = nought ∷ nought ∷ nought ∷ nought ∷ []
four_sums oversample offset (suc j) coefs window = spread (four_sums oversample offset j coefs window) (at window j) coefs (tap oversample offset j)

-- weight times sum, four times, added from 0.0
unfoldable pub folded : List Float → List Float → Float
folded w s = nought +ᶠ at w 0 *ᶠ at s 0 +ᶠ at w 1 *ᶠ at s 1 +ᶠ at w 2 *ᶠ at s 2 +ᶠ at w 3 *ᶠ at s 3

-- the output at an offset with the remainder f
abbrev pub interpolated : ℕ → ℕ → Float → ℕ → List Float → List Float → Float
interpolated oversample offset f n coefs window = folded (cubic_coef f) (four_sums oversample offset n coefs window)

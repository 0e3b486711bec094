-- Document 01, "One output, one call": the weights of the four sums. Each operation is rounded in the order in which the Rust writes it; only the
-- third weight is worked out in f64. Assumes nothing.
use Rattle.std.specs.Prelude.{List, [], ◌∷◌, Float}
use Rattle.std.specs.Float.Ieee.{neg}
use Rattle.math.specs.Operators.{◌+ᶠ◌, ◌-ᶠ◌, ◌*ᶠ◌, ◌-ᵈ◌}
use Rattle.math.specs.Numerals.{as_f64, decimal32}
use Rattle.casts.specs.Narrowed.{narrowed}

-- the third weight from the first, second and fourth: 1 - a - b - d in f64, and then rounded to f32
unfoldable pub third_weight : Float → Float → Float → Float
third_weight a b d = narrowed (as_f64 1 -ᵈ a -ᵈ b -ᵈ d)

-- the four weights at the remainder f; a product of several is taken from the left
unfoldable pub cubic_coef : Float → List Float
cubic_coef f =
    let half = decimal32 1 5 in
    let sixth = decimal32 5 16667 in
    let third = decimal32 5 33333 in
    let a = neg sixth *ᶠ f +ᶠ sixth *ᶠ f *ᶠ f *ᶠ f in
    let b = f +ᶠ half *ᶠ f *ᶠ f -ᶠ half *ᶠ f *ᶠ f *ᶠ f in
    let d = neg third *ᶠ f +ᶠ half *ᶠ f *ᶠ f -ᶠ sixth *ᶠ f *ᶠ f *ᶠ f in
    a ∷ b ∷ third_weight a b d ∷ d ∷ []

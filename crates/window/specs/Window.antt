-- Document 01, "Coefficients": the window. Assumes nothing.
use Rattle.std.specs.Prelude.{◌≡◌, ℕ, ◌+◌, false, List, [], ◌∷◌, map, slice_index_or, Float}
use Rattle.std.specs.Float.{nan}
use Rattle.std.specs.Float.Ieee.{neg, lt}
use Rattle.math.specs.Operators.{◌+ᵈ◌, ◌-ᵈ◌, ◌*ᵈ◌, ◌*ᶠ◌, ◌-ᶠ◌}
use Rattle.math.specs.Numerals.{as_f32, as_f64, decimal64}
use Rattle.casts.specs.Floor.{floor_of}
use Rattle.math.specs.Powers.{square, cube}
use Rattle.window.specs.declared.Weights.{Weights}

-- where the window is asked: at a number from 0 to 1, or at a NaN
abbrev pub NotAboveOne : Float → Type 0
NotAboveOne x = lt (as_f32 1) x ≡ false

-- the 36 entries of the Kaiser table, in units of 10 ^ -8
abbrev pub kaiser_digits : List ℕ
kaiser_digits =
    99537781 ∷ 100000000 ∷ 99537781 ∷ 98162644 ∷ 95908712 ∷ 92831446 ∷
    89005583 ∷ 84522401 ∷ 79486424 ∷ 74011713 ∷ 68217934 ∷ 62226347 ∷
    56155915 ∷ 50119680 ∷ 44221549 ∷ 38553619 ∷ 33194107 ∷ 28205962 ∷
    23636152 ∷ 19515633 ∷ 15859932 ∷ 12670280 ∷ 9935205 ∷ 7632451 ∷
    5731132 ∷ 4193980 ∷ 2979584 ∷ 2044510 ∷ 1345224 ∷ 839739 ∷
    488951 ∷ 257636 ∷ 115101 ∷ 35515 ∷ 0 ∷ 0 ∷ []

-- the same entries, each the f64 nearest to its decimal
unfoldable pub kaiser : List Float
kaiser = map (decimal64 8) kaiser_digits

-- the weights of four neighbouring entries at f, from 0 to 1, past the second of them
unfoldable pub weights_at : Float → Weights
weights_at f =
    let f2 = square f in
    let f3 = cube f in
    let half = decimal64 1 5 in
    let sixth = decimal64 10 1666666667 in
    let third = decimal64 10 3333333333 in
    let w3 = neg sixth *ᵈ f +ᵈ sixth *ᵈ f3 in
    let w2 = f +ᵈ half *ᵈ f2 -ᵈ half *ᵈ f3 in
    let w0 = neg third *ᵈ f +ᵈ half *ᵈ f2 -ᵈ sixth *ᵈ f3 in
    let w1 = as_f64 1 -ᵈ w3 -ᵈ w2 -ᵈ w0 in
    record { w0 = w0; w1 = w1; w2 = w2; w3 = w3 }

-- the four entries from ind on, each times its weight, summed in this order
unfoldable pub weighted_sum : Weights → ℕ → Float
weighted_sum w ind =
    w.w0 *ᵈ slice_index_or kaiser ind nan +ᵈ w.w1 *ᵈ slice_index_or kaiser (ind + 1) nan
    +ᵈ w.w2 *ᵈ slice_index_or kaiser (ind + 2) nan +ᵈ w.w3 *ᵈ slice_index_or kaiser (ind + 3) nan

-- the window at x: y is 32 x in f32, ind its floor, and the weights are those of the rest
unfoldable pub window_at : Float → Float
window_at x =
    let y = x *ᶠ as_f32 32 in
    let ind = floor_of y in
    weighted_sum (weights_at (y -ᶠ as_f32 ind)) ind

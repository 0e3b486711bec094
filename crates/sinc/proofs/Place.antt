-- Where |x| is at most n/2, |2 x / n|, rounded to f64 and then to f32, is at most 1: each rounding keeps the order, and n and 1 are values of the format. A NaN stays a NaN, which is not above 1.
-- Assumes nothing.
use Rattle.std.proofs.Common.{◌≡◌, ℕ, ◌*◌, ◌^◌, ◌<◌, true, false, sym, refl, ap, ◌∙◌, subst, true≢false, lt_of_lt_of_le, one-mul, arith, lit<, lit≤}
use lib.Arith.{le→nltb}
use lib.Ieee.{Float, nan, inf, fin, binary32, binary64, up, down, round, mul, div, lt, of_int}
use lib.Ieee.Fits.{down_pos}
use lib.Ieee.Bits.{is_false}
use lib.Ieee.Exact.{HasValue}
use lib.Ieee.Positive.{positive_of_value, mul_at}
use Rattle.math.specs.Operators.{◌*ᵈ◌, ◌/ᵈ◌}
use Rattle.math.specs.Numerals.{as_f64, decimal64}
use Rattle.casts.specs.Narrowed.{narrowed}
use Rattle.math.specs.Sign.{magnitude}
use Rattle.math.proofs.Rounded.{AtMost, not_above, round_at_most}
use Rattle.math.proofs.Bounded.{holds, at_value, mul_at_most, div_at_most}
use Rattle.window.specs.Window.{NotAboveOne}
use Rattle.sinc.specs.Sinc.{place_at}

-- ---- at most 1 stays so where it is rounded to f32
narrowed_at_most : (z : Float) → AtMost z 1 1 → AtMost (narrowed z) 1 1
unfolding narrowed
narrowed_at_most nan h = absurd h
narrowed_at_most (inf s) h = absurd h
narrowed_at_most (fin true m e) h = absurd (true≢false h.0)
narrowed_at_most (fin false m e) h = round_at_most binary32 (m * up e) (down e) 1 1 (down_pos e) (lit< tt) (holds binary32 1 0 (lit< tt) (lit≤ tt)) h.1

not_above_one : (z : Float) → AtMost z 1 1 → NotAboveOne z
unfolding lt of_int
not_above_one nan h = absurd h
not_above_one (inf s) h = absurd h
not_above_one (fin true m e) h = absurd (true≢false h.0)
not_above_one (fin false m e) h = is_false _ (le→nltb (1 * 1 * down e) (m * up e * 1) (omega (arith, h.1)))

-- ---- a whole number as an f64 is exact
whole : (n : ℕ) → n < 2 ^ 53 → HasValue (as_f64 n) false n 1
unfolding of_int
whole n few = holds binary64 n 0 few (lit≤ tt)

module _ (n : ℕ) (some : 0 < n) (few : n < 2 ^ 32) where
  n_is : HasValue (as_f64 n) false n 1
  n_is = whole n (lt_of_lt_of_le few (lit≤ tt))

  -- n / 2 is exact
  pub half : HasValue (decimal64 1 5 *ᵈ as_f64 n) false n 2
  unfolding decimal64
  half =
      subst (λ (y : Float). HasValue y false n 2)
      (sym (mul_at binary64 (decimal64 1 5) (as_f64 n) 1 2 n 1 tt (positive_of_value (as_f64 n) n 1 n_is some) (lit< tt) (lit< tt) (refl, refl) n_is ∙ ap (λ (k : ℕ). round binary64 false k 2) (one-mul n)))
      (holds binary64 n 1 (lt_of_lt_of_le few (lit≤ tt)) (lit≤ tt))

  -- 2 x is at most n, and divided by n at most 1
  at_most_one : (x : Float) → AtMost (magnitude x) n 2 → NotAboveOne (place_at x n)
  unfolding place_at of_int
  at_most_one x h =
      let y = as_f64 2 *ᵈ x in
      let a : AtMost (magnitude y) n 1 = mul_at_most binary64 (as_f64 2) x 2 1 n 2 n 1 (lit< tt) (lit< tt) (lit< tt) n_is (at_value (as_f64 2) 2 1 (whole 2 (lit< tt))) h (omega arith) in
      let b : AtMost (magnitude (y /ᵈ as_f64 n)) 1 1 = div_at_most binary64 y (as_f64 n) n 1 n 1 1 (lit< tt) some (lit< tt) (whole 1 (lit< tt)) a n_is (omega arith) in
      not_above_one (place_at x n) (narrowed_at_most (magnitude (y /ᵈ as_f64 n)) b)

  pub in_window : (x : Float) → lt (decimal64 1 5 *ᵈ as_f64 n) (magnitude x) ≡ false → NotAboveOne (place_at x n)
  unfolding place_at magnitude narrowed mul div lt of_int
  in_window nan h = refl
  in_window (inf s) h = absurd (not_above (inf false) (decimal64 1 5 *ᵈ as_f64 n) n 2 refl half h)
  in_window (fin s m e) h = at_most_one (fin s m e) (not_above (fin false m e) (decimal64 1 5 *ᵈ as_f64 n) n 2 refl half h)

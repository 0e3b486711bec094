-- The sinc is even, bit for bit: of -x it keeps the size, the product with cutoff and its sine change their sign together, and the quotient of those two keeps its own.
-- Assumes nothing.
use Rattle.std.proofs.Common.{◌≡◌, ℕ, T, sym, ap, ◌∙◌}
use lib.Ieee.{Float, binary32, binary64, neg, fits, of_bits, to_bits}
use lib.Ieee.Bits.{of_bits-to_bits}
use lib.Ieee.Fits.{neg-fits}
use Rattle.math.specs.Numerals.{as_f64}
use Rattle.math.specs.Operators.{◌*ᵈ◌, ◌/ᵈ◌}
use Rattle.math.proofs.Negated.{magnitude_neg, mul_neg_first, mul_neg_second, div_neg_first, div_neg_both}
use Rattle.sine.specs.Sine.{C, sine_at}
use Rattle.sine.proofs.Odd.{sine_odd}
use Rattle.sinc.specs.Sinc.{place_at, angle_at, windowed_sinc, sinc_at}

place_even : (x : Float) (n : ℕ) → place_at (neg x) n ≡ place_at x n
unfolding place_at
place_even x n = rw (mul_neg_second binary64 (as_f64 2) x, div_neg_first binary64 (as_f64 2 *ᵈ x) (as_f64 n), magnitude_neg (as_f64 2 *ᵈ x /ᵈ as_f64 n))

angle_odd : (cutoff x : Float) → angle_at cutoff (neg x) ≡ neg (angle_at cutoff x)
angle_odd cutoff x = rw (mul_neg_first binary32 x cutoff, mul_neg_second binary64 C _)

quotient_even : (cutoff a : Float) → cutoff *ᵈ sine_at (neg a) /ᵈ neg a ≡ cutoff *ᵈ sine_at a /ᵈ a
quotient_even cutoff a = rw (sine_odd a, mul_neg_second binary64 cutoff (sine_at a), div_neg_both binary64 (cutoff *ᵈ sine_at a) a)

windowed_even : (cutoff x : Float) (n : ℕ) → windowed_sinc cutoff (neg x) n ≡ windowed_sinc cutoff x n
unfolding windowed_sinc
windowed_even cutoff x n = rw (angle_odd cutoff x, quotient_even cutoff (angle_at cutoff x), place_even x n)

pub sinc_even : (cutoff x : Float) (n : ℕ) → sinc_at cutoff (neg x) n ≡ sinc_at cutoff x n
unfolding sinc_at
sinc_even cutoff x n = rw (magnitude_neg x, windowed_even cutoff x n)

-- where x has the bits of -y, the coefficient at y is that at x
pub by_bits : (cutoff x : Float) (n : ℕ) (y : Float) {known : Float} → T (fits binary32 x) → T (fits binary32 y) → to_bits binary32 x ≡ to_bits binary32 (neg y)
    → known ≡ sinc_at cutoff y n → known ≡ sinc_at cutoff x n
by_bits cutoff x n y p q e is =
    let mirror : x ≡ neg y = sym (of_bits-to_bits binary32 x p) ∙ ap (of_bits binary32) e ∙ of_bits-to_bits binary32 (neg y) (neg-fits binary32 y q) in
    is ∙ sym (sinc_even cutoff y n) ∙ ap (λ (z : Float). sinc_at cutoff z n) (sym mirror)

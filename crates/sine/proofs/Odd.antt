-- The reader's check on the signs of the sine: it is odd at every a, the zeros, the infinities and a NaN included; and at C, where the sign is flipped, it is -0.0.
-- Assumes nothing.
use mathlib.Core.Path.{◌≡◌, refl, sym, ap, ◌∙◌}
use mathlib.Core.Bool.{Bool, true, false, not, cond}
use lib.Ieee.{Float, nan, inf, fin, neg, add, sub, mul, div, rem, lt, le, of_int}
use Rattle.math.specs.Numerals.{nought, decimal64}
use Rattle.math.specs.Sign.{magnitude, times_sign}
use Rattle.math.proofs.Negated.{neg-neg, magnitude_neg}
use Rattle.sine.specs.Sine.{C, reduced, coefficient, horner, series, sine_at}

-- the sign of -a flips what the sign of a leaves
other_sign : (s : Bool) (v : Float) → cond (not s) (neg v) v ≡ neg (cond s (neg v) v)
other_sign true v = sym (neg-neg v)
other_sign false v = refl

sine_nan : sine_at nan ≡ nan
unfolding sine_at reduced magnitude times_sign series horner coefficient C decimal64 of_int rem lt le neg add mul div
sine_nan = refl

-- the ten terms at what is left of a, flipped where the reduction says so
abbrev unsigned : Float → Float
unsigned a = cond (reduced a).flip (neg (series (reduced a).r)) (series (reduced a).r)

unsigned_neg : (a : Float) → unsigned (neg a) ≡ unsigned a
unfolding reduced
unsigned_neg a = rw (magnitude_neg a)

pub sine_odd : (a : Float) → sine_at (neg a) ≡ neg (sine_at a)
unfolding sine_at times_sign neg
sine_odd nan = sine_nan ∙ sym (ap neg sine_nan)
sine_odd (inf s) = ap (times_sign (neg (inf s))) (unsigned_neg (inf s)) ∙ other_sign s (unsigned (inf s))
sine_odd (fin s m e) = ap (times_sign (neg (fin s m e))) (unsigned_neg (fin s m e)) ∙ other_sign s (unsigned (fin s m e))

pub sine_half_turn : sine_at C ≡ neg nought
unfolding sine_at reduced magnitude times_sign series horner coefficient C decimal64 of_int rem lt le neg add sub mul div
sine_half_turn = refl

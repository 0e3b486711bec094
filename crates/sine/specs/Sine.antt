-- Document 01, "Coefficients", its paragraph "Sine (added)": the steps in its order, for every a. That it is odd, also at the zeros, is proved in proofs/Odd.antt.
-- Assumes nothing.
use Rattle.std.specs.Prelude.{ℕ, zero, suc, ◌+◌, ◌*◌, cond, Float}
use Rattle.std.specs.Float.{binary64}
use Rattle.std.specs.Float.Ieee.{neg, rem, lt, le}
use Rattle.math.specs.Numerals.{decimal64, as_f64}
use Rattle.math.specs.Operators.{◌+ᵈ◌, ◌-ᵈ◌, ◌*ᵈ◌, ◌/ᵈ◌}
use Rattle.math.specs.Sign.{magnitude, times_sign}
use Rattle.sine.specs.declared.Reduced.{Reduced}

-- C, the f64 nearest pi
unfoldable pub C : Float
C = decimal64 15 3141592653589793

-- what is left of a: `turn` is |a| % 2 C; `half` is that, and from C on C less, with a flip of the sign; r is that, and above C / 2 it is C less that
unfoldable pub reduced : Float → Reduced
reduced a =
    let turn = rem binary64 (magnitude a) (as_f64 2 *ᵈ C) in
    let flip = le C turn in
    let half = cond flip (turn -ᵈ C) turn in
    let r = cond (lt (C /ᵈ as_f64 2) half) (C -ᵈ half) half in
    record { r = r; flip = flip }

-- n!
abbrev pub factorial : ℕ → ℕ
factorial zero = 1
factorial (suc n) = suc n * factorial n

-- 1.0 where i is even, -1.0 where it is odd
abbrev pub plus_or_minus : ℕ → Float
plus_or_minus zero = as_f64 1
plus_or_minus (suc i) = neg (plus_or_minus i)

-- c_i: that, divided once by (2 i + 1)!
unfoldable pub coefficient : ℕ → Float
coefficient i = plus_or_minus i /ᵈ as_f64 (factorial (2 * i + 1))

-- Horner's rule in s from c_(i - 1) down to c_0, with p so far
unfoldable pub horner : Float → ℕ → Float → Float
horner s zero p = p
horner s (suc i) p = horner s i (p *ᵈ s +ᵈ coefficient i)

-- from c_9 down to c_0 in s = r * r, times r
unfoldable pub series : Float → Float
series r = horner (r *ᵈ r) 9 (coefficient 9) *ᵈ r

-- the series at what is left of a, negated where the reduction flips, and then times the sign of a
unfoldable pub sine_at : Float → Float
sine_at a =
    let t = reduced a in
    let v = series t.r in
    times_sign a (cond t.flip (neg v) v)

-- The 32-bit pattern of what `round binary32` makes: where it drops d digits and keeps the number r, the pattern is d * 2 ^ 23 + r. A carry out of r, up to an infinity's pattern, is right by itself.
-- Assumes nothing.
use Rattle.std.proofs.Common.{◌≡◌, ℕ, suc, ◌+◌, ◌-◌, ◌*◌, ◌/◌, ◌^◌, ◌<◌, ◌≤◌, Bool, true, false, cond, T, ltb, ◌⊎◌, sym, refl, ap, ◌∙◌, subst, inl, inr, zero-le, le_trans, le_of_eq, lt_of_lt_of_le, lt_of_le_of_lt, mul-le-mul_right, le_antisymm, eq-or-lt_of_le, mul-le-mul_left, mul-lt-mul_of_pos_right, lt_of_not-le, zero-add, mul-one, not-le_of_lt, le_of_mul-le-mul_right, mul-div_cancel, arith, lit<, ltb→lt, pow_pos, pow_mono, pow-add}
use native.Mathlib.Nat.{pow-succ'}
use lib.Ieee.{Float, nan, inf, fin, binary32, up, down, size, odd, units, round, to_bits}
use lib.Ieee.Digits.{size-lt, size-le}
use lib.Ieee.Fits.{down_pos, round_is}
use lib.Ieee.Exact.{HasValue, units_val}
use lib.Ieee.Nearest.{closest}
use lib.Ieee.Order.{drop}
use Rattle.math.proofs.Closest.{below_or_not}

pub size_is : (j n : ℕ) → 2 ^ j ≤ n → n < 2 ^ suc j → size n ≡ suc j
size_is j n lo hi = le_antisymm (size-le n (suc j) hi) (lt_of_not-le (λ (g : size n ≤ j). not-le_of_lt (lt_of_lt_of_le (size-lt n) (pow_mono g)) lo))

-- ---- a number a of units of 2 ^ -149, as `to_bits` writes it
abbrev written : ℕ → ℕ
written a = (size a - 24) * 2 ^ 23 + a / 2 ^ (size a - 24)

to_bits_is : (x : Float) (a : ℕ) → HasValue x false a (2 ^ 149) → to_bits binary32 x ≡ written a
unfolding to_bits
to_bits_is nan a h = absurd h
to_bits_is (inf t) a h = absurd h
to_bits_is (fin t m e) a h =
    let is : m * up e * 2 ^ 149 / down e ≡ a = ap (λ (x : ℕ). x / down e) h.1 ∙ mul-div_cancel a (down_pos e) in
    ap (λ (n : ℕ). cond t (2 ^ 31) 0 + (size n - 24) * 2 ^ 23 + n / 2 ^ (size n - 24)) is
    ∙ ap (λ (b : Bool). cond b (2 ^ 31) 0 + (size a - 24) * 2 ^ 23 + a / 2 ^ (size a - 24)) h.0
    ∙ ap (λ (z : ℕ). z + a / 2 ^ (size a - 24)) (zero-add ((size a - 24) * 2 ^ 23))

written_at : (a d r : ℕ) → size a - 24 ≡ d → a ≡ r * 2 ^ d → written a ≡ d * 2 ^ 23 + r
written_at a d r z e =
    ap (λ (k : ℕ). k * 2 ^ 23 + a / 2 ^ k) z ∙ ap (λ (x : ℕ). d * 2 ^ 23 + x / 2 ^ d) e ∙ ap (λ (x : ℕ). d * 2 ^ 23 + x) (mul-div_cancel r (pow_pos d))

-- r has fewer than 24 digits: nothing was dropped
written_low : (r : ℕ) → r < 2 ^ 23 → written (r * 2 ^ 0) ≡ 0 * 2 ^ 23 + r
written_low r h =
    let z : size (r * 1) ≤ 23 = size-le (r * 1) 23 (subst (λ (x : ℕ). x < 2 ^ 23) (sym (mul-one r)) h) in
    written_at (r * 1) 0 r (omega arith) refl

-- r has 24 digits
written_mid : (d r : ℕ) → 2 ^ 23 ≤ r → r < 2 ^ 24 → written (r * 2 ^ d) ≡ d * 2 ^ 23 + r
written_mid d r lo hi =
    let z : size (r * 2 ^ d) ≡ suc (23 + d) =
    size_is (23 + d) (r * 2 ^ d)
    (subst (λ (x : ℕ). x ≤ r * 2 ^ d) (sym (pow-add 2 23 d)) (mul-le-mul_right (2 ^ d) lo))
    (subst (λ (x : ℕ). r * 2 ^ d < x) (sym (pow-add 2 24 d) ∙ ap (λ (x : ℕ). 2 ^ x) (omega arith)) (mul-lt-mul_of_pos_right hi (pow_pos d))) in
    written_at (r * 2 ^ d) d r (omega arith) refl

-- r is 2 ^ 24, of 25 digits
written_top : (d : ℕ) → written (2 ^ 24 * 2 ^ d) ≡ d * 2 ^ 23 + 2 ^ 24
written_top d =
    let a = 2 ^ 24 * 2 ^ d in
    let p : 2 ^ suc d ≡ 2 * 2 ^ d = pow-succ' 2 d in
    let e : a ≡ 2 ^ 23 * 2 ^ suc d = omega arith in
    let z : size a ≡ suc (24 + d) =
    size_is (24 + d) a (le_of_eq (pow-add 2 24 d)) (subst (λ (x : ℕ). a < x) (sym (pow-add 2 25 d) ∙ ap (λ (x : ℕ). 2 ^ x) (omega arith)) (mul-lt-mul_of_pos_right (lit< tt) (pow_pos d))) in
    written_at a (suc d) (2 ^ 23) (omega arith) e ∙ omega arith

none : (r d : ℕ) → r < 2 ^ 23 → (0 < d → 2 ^ 23 ≤ r) → 0 ≡ d
none r d h k = go (eq-or-lt_of_le zero-le)
  where
    go : (0 ≡ d) ⊎ (0 < d) → 0 ≡ d
    go (inl e) = e
    go (inr l) = absurd (not-le_of_lt h (k l))

written_is : (d r : ℕ) → r ≤ 2 ^ 24 → (0 < d → 2 ^ 23 ≤ r) → written (r * 2 ^ d) ≡ d * 2 ^ 23 + r
written_is d r h k = go (eq-or-lt_of_le h) (below_or_not r (2 ^ 23))
  where
    go : (r ≡ 2 ^ 24) ⊎ (r < 2 ^ 24) → (r < 2 ^ 23) ⊎ (2 ^ 23 ≤ r) → written (r * 2 ^ d) ≡ d * 2 ^ 23 + r
    go (inl e) t = subst (λ (x : ℕ). written (x * 2 ^ d) ≡ d * 2 ^ 23 + x) (sym e) (written_top d)
    go (inr l) (inl t) = subst (λ (x : ℕ). written (r * 2 ^ x) ≡ x * 2 ^ 23 + r) (none r d t k) (written_low r t)
    go (inr l) (inr t) = written_mid d r t l

-- ---- `units`, as a pattern
pub to_bits_inf : to_bits binary32 (inf false) ≡ 255 * 2 ^ 23
unfolding to_bits
to_bits_inf = refl

pub units_inf : (r d : ℕ) → 2 ^ 277 ≤ r * 2 ^ d → units binary32 false r d ≡ inf false
unfolding units
units_inf r d h = go (ltb (r * 2 ^ d) (2 ^ 277)) (ltb→lt (r * 2 ^ d) (2 ^ 277))
  where
    go : (b : Bool) → (T b → r * 2 ^ d < 2 ^ 277) → cond b (odd 25 false r d 149) (inf false) ≡ inf false
    go true t = absurd (not-le_of_lt (t tt) h)
    go false t = refl

-- only 2 ^ 24 * 2 ^ 253 is as large as that
at_top : (r d : ℕ) → r ≤ 2 ^ 24 → d < 254 → 2 ^ 277 ≤ r * 2 ^ d → 255 * 2 ^ 23 ≡ d * 2 ^ 23 + r
at_top r d h l g = go (eq-or-lt_of_le l)
  where
    go : (suc d ≡ 254) ⊎ (suc d < 254) → 255 * 2 ^ 23 ≡ d * 2 ^ 23 + r
    go (inl e) =
        let at : d ≡ 253 = omega arith in
        let full : 2 ^ 24 ≤ r = le_of_mul-le-mul_right (subst (λ (x : ℕ). 2 ^ 277 ≤ r * 2 ^ x) at g) (pow_pos 253) in
        omega arith
    go (inr k) =
        let small : d ≤ 252 = omega arith in
        absurd (not-le_of_lt (lt_of_le_of_lt (le_trans (mul-le-mul_right (2 ^ d) h) (mul-le-mul_left (2 ^ 24) (pow_mono small))) (lit< tt)) g)

pub to_bits_units : (r d : ℕ) → r ≤ 2 ^ 24 → (0 < d → 2 ^ 23 ≤ r) → d < 254 → to_bits binary32 (units binary32 false r d) ≡ d * 2 ^ 23 + r
to_bits_units r d h k l = go (below_or_not (r * 2 ^ d) (2 ^ 277))
  where
    go : (r * 2 ^ d < 2 ^ 277) ⊎ (2 ^ 277 ≤ r * 2 ^ d) → to_bits binary32 (units binary32 false r d) ≡ d * 2 ^ 23 + r
    go (inl t) = to_bits_is (units binary32 false r d) (r * 2 ^ d) (units_val binary32 false r d t) ∙ written_is d r h k
    go (inr g) = ap (to_bits binary32) (units_inf r d g) ∙ to_bits_inf ∙ at_top r d h l g

-- ---- `round`, as `units`
pub round_at : (a c d r : ℕ) → drop 24 (a * 2 ^ 149) c ≡ d → closest (a * 2 ^ 149) (c * 2 ^ d) ≡ r → round binary32 false a c ≡ units binary32 false r d
round_at a c d r e k =
    round_is binary32 false a c ∙ ap (λ (z : ℕ). units binary32 false (closest (a * 2 ^ 149) (c * 2 ^ z)) z) e ∙ ap (λ (z : ℕ). units binary32 false z d) k

-- A sample as a float: exactly the sample over 32768, and back to the same sample. Assumes nothing.
use Rattle.std.proofs.Common.{◌≡◌, ℕ, suc, ◌*◌, ◌^◌, ◌<◌, ◌≤◌, min, Bool, true, false, ℤ, pos, negsuc, neg_ℤ, nat_abs, sym, ap, ◌∙◌, lt_of_le_of_lt, mul-le-mul_right, mul_assoc, mul_comm, mul-one, mul_left_comm, arith, lit<, w16, SFits}
use native.Mathlib.Nat.{div-eq_of_lt-le}
use lib.Ieee.{Float, nan, inf, fin, binary32, up, down, round, div, of_int}
use lib.Ieee.Fits.{down_pos}
use lib.Ieee.Exact.{HasValue, round_exact}
use lib.Ieee.Back.{round_whole}
use lib.Ieee.Scale.{round_same}
use Rattle.sixteen.specs.Sixteen.{half_up, clamped, to_i16, from_i16}

-- ---- a whole number over 32768
over_cross : (a c n : ℕ) → a * 1 ≡ n * c → a * 1 * 32768 ≡ n * (1 * 32768 * c)
over_cross a c n h = ap (λ (k : ℕ). k * 32768) h ∙ simp (mul_assoc, mul_comm, mul_left_comm, mul-one)

over : (y : Float) (s : Bool) (n : ℕ) → HasValue y s n 1 → div binary32 y (fin false 1 (pos 15)) ≡ round binary32 s n 32768
over nan s n v = absurd v
over (inf t) s n v = absurd v
over (fin true m e) s n v = unfold div in
    ap (λ (b : Bool). round binary32 b (m * up e * 1) (1 * 2 ^ 15 * down e)) v.0
    ∙ round_same binary32 s (m * up e * 1) (1 * 2 ^ 15 * down e) n 32768 (omega (arith, down_pos e)) (lit< tt) (over_cross (m * up e) (down e) n v.1)
over (fin false m e) s n v = unfold div in
    ap (λ (b : Bool). round binary32 b (m * up e * 1) (1 * 2 ^ 15 * down e)) v.0
    ∙ round_same binary32 s (m * up e * 1) (1 * 2 ^ 15 * down e) n 32768 (omega (arith, down_pos e)) (lit< tt) (over_cross (m * up e) (down e) n v.1)

pub div_is : (z : ℤ) → SFits w16 z → div binary32 (of_int binary32 z) (fin false 1 (pos 15)) ≡ from_i16 z
unfolding of_int from_i16
div_is (pos n) f = over (round binary32 false n 1) false n (round_whole binary32 false n (omega (arith, f.sfits)))
div_is (negsuc n) f = over (round binary32 true (suc n) 1) true (suc n) (round_whole binary32 true (suc n) (omega (arith, f.sfits)))

-- ---- nothing is lost
abbrev pub minus : ℤ → Bool
minus (pos n) = false
minus (negsuc n) = true

exact : (s : Bool) (n : ℕ) → n ≤ 32768 → HasValue (round binary32 s n 32768) s n 32768
exact s n h = round_exact binary32 s n 32768 n 134 (lit< tt) (omega arith) (lt_of_le_of_lt (mul-le-mul_right (2 ^ 134) h) (lit< tt)) (sym (mul_assoc n (2 ^ 134) 32768))

pub from_exact : (z : ℤ) → SFits w16 z → HasValue (from_i16 z) (minus z) (nat_abs z) 32768
unfolding from_i16
from_exact (pos n) f = exact false n (omega (arith, f.sfits))
from_exact (negsuc n) f = exact true (suc n) (omega (arith, f.sfits))

-- ---- there and back
back_whole : (n c : ℕ) → 0 < c → half_up (n * c) c ≡ n
back_whole n c p = div-eq_of_lt-le (2 * c) (omega arith) (omega arith)

back : (y : Float) (s : Bool) (n : ℕ) → HasValue y s n 32768 → to_i16 y ≡ clamped s n
back nan s n v = absurd v
back (inf t) s n v = absurd v
back (fin t m e) s n v = unfold to_i16 in
    ap (λ (k : ℕ). clamped t (half_up k (down e))) v.1 ∙ ap (clamped t) (back_whole n (down e) (down_pos e)) ∙ ap (λ (b : Bool). clamped b n) v.0

min_small : (n : ℕ) → n < 32768 → min n 32767 ≡ n
min_small n h = omega arith

min_low : (n : ℕ) → n < 32768 → min (suc n) 32768 ≡ suc n
min_low n h = omega arith

-- a sample that becomes a float and comes back is the same sample
pub round_trip : (z : ℤ) → SFits w16 z → to_i16 (from_i16 z) ≡ z
round_trip (pos n) f = back (from_i16 (pos n)) false n (from_exact (pos n) f) ∙ ap pos (min_small n f.sfits)
round_trip (negsuc n) f = back (from_i16 (negsuc n)) true (suc n) (from_exact (negsuc n) f) ∙ ap (λ (k : ℕ). neg_ℤ (pos k)) (min_low n f.sfits)

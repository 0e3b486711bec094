-- What a 64-bit pattern without a sign narrows to, by its exponent's field: below 873 a zero, from 1151 on an infinity, and between the digits rounded at the place that the 32-bit format keeps.
-- Assumes nothing.
use Rattle.std.proofs.Common.{◌≡◌, ℕ, zero, suc, ◌+◌, ◌-◌, ◌*◌, ◌/◌, ◌%◌, ◌^◌, ◌<◌, ◌≤◌, Bool, false, cond, eqb, leb, sym, refl, ap, ◌∙◌, zero-le, le_trans, le_of_eq, lt_of_lt_of_le, lt_of_le_of_lt, lt_irrefl, mul-le-mul_right, mod-eq_of_lt, zero-lt-suc, mul_assoc, mul_comm, div-lt_iff_lt-mul, add_comm, mul-le-mul_left, mul-lt-mul_of_pos_right, mul-pos, le-div_iff_mul-le, mul-one, mul_left_comm, arith, lit<, lit≤, eqb→eq, pow_pos, pow_mono, pow-add}
use native.Mathlib.Nat.{div-eq_of_lt, mul-div-mul_right}
use lib.Dec.{not_T}
use lib.Arith.{lt→nleb}
use lib.Ieee.{Float, nan, inf, fin, binary32, binary64, up, down, size, odd, units, round, of_fields, of_bits, to_bits}
use lib.Ieee.Digits.{size-le}
use lib.Ieee.Fits.{down_pos}
use lib.Ieee.Bits.{is_false, cond_no}
use lib.Ieee.Exact.{HasValue, odd_sign}
use lib.Ieee.Nearest.{closest, closest_same}
use lib.Ieee.Scale.{round_same}
use Rattle.casts.specs.Narrowed.{narrowed}
use Rattle.math.proofs.Closest.{tiny, closest_ge, closest_le}
use Rattle.casts.proofs.Pattern.{size_is, to_bits_inf, units_inf, to_bits_units, round_at}

-- ---- a finite value narrows by whatever fraction it equals
narrowed_val : (x : Float) (a c : ℕ) → 0 < c → HasValue x false a c → narrowed x ≡ round binary32 false a c
unfolding narrowed
narrowed_val nan a c C h = absurd h
narrowed_val (inf t) a c C h = absurd h
narrowed_val (fin t m e) a c C h =
    ap (λ (b : Bool). round binary32 b (m * up e) (down e)) h.0 ∙ round_same binary32 false (m * up e) (down e) a c (down_pos e) C h.1

narrowed_odd : (q k : ℕ) → narrowed (odd 53 false q k 1074) ≡ round binary32 false (q * 2 ^ k) (2 ^ 1074)
narrowed_odd q k = narrowed_val (odd 53 false q k 1074) (q * 2 ^ k) (2 ^ 1074) (pow_pos 1074) (odd_sign 53 false q k 1074)

-- ---- a / (u * 2 ^ 149) is a / u in units of 2 ^ -149
in_units : (a u d r : ℕ) → 0 < u → size (a / u) - 24 ≡ d → closest a (u * 2 ^ d) ≡ r → round binary32 false a (u * 2 ^ 149) ≡ units binary32 false r d
in_units a u d r U e k =
    round_at a (u * 2 ^ 149) d r
    (ap (λ (x : ℕ). size x - 24) (mul-div-mul_right a u (pow_pos 149)) ∙ e)
    (closest_same (a * 2 ^ 149) (u * 2 ^ 149 * 2 ^ d) a (u * 2 ^ d) (mul-pos (mul-pos U (pow_pos 149)) (pow_pos d)) (mul-pos U (pow_pos d))
    (mul_assoc a (2 ^ 149) (u * 2 ^ d) ∙ ap (λ (x : ℕ). a * x) (mul_left_comm (2 ^ 149) u (2 ^ d) ∙ sym (mul_assoc u (2 ^ 149) (2 ^ d))))
    ∙ k)

-- ---- 53 digits q at the exponent's field 897 + d: in the 32-bit format's normal range
normal : (q d : ℕ) → 2 ^ 52 ≤ q → q < 2 ^ 53 → round binary32 false (q * 2 ^ (896 + d)) (2 ^ 1074) ≡ units binary32 false (closest q (2 ^ 29)) d
normal q d lo hi =
    let p : 2 ^ (23 + d) ≡ 2 ^ 23 * 2 ^ d = pow-add 2 23 d in
    let p' : 2 ^ suc (23 + d) ≡ 2 ^ 24 * 2 ^ d = ap (λ (x : ℕ). 2 ^ x) (omega arith) ∙ pow-add 2 24 d in
    let lo' : 2 ^ 52 * 2 ^ d ≤ q * 2 ^ d = mul-le-mul_right (2 ^ d) lo in
    let hi' : q * 2 ^ d < 2 ^ 53 * 2 ^ d = mul-lt-mul_of_pos_right hi (pow_pos d) in
    let z : size (q * 2 ^ d / 2 ^ 29) ≡ suc (23 + d) =
    size_is (23 + d) (q * 2 ^ d / 2 ^ 29) ((le-div_iff_mul-le (pow_pos 29)).1 (omega arith)) ((div-lt_iff_lt-mul (pow_pos 29)).1 (omega arith)) in
    round_same binary32 false (q * 2 ^ (896 + d)) (2 ^ 1074) (q * 2 ^ d) (2 ^ 29 * 2 ^ 149) (pow_pos 1074) (pow_pos 178)
    (ap (λ (x : ℕ). x * 2 ^ 178) (ap (λ (x : ℕ). q * x) (pow-add 2 896 d ∙ mul_comm (2 ^ 896) (2 ^ d)) ∙ sym (mul_assoc q (2 ^ d) (2 ^ 896))) ∙ mul_assoc (q * 2 ^ d) (2 ^ 896) (2 ^ 178))
    ∙ in_units (q * 2 ^ d) (2 ^ 29) d (closest q (2 ^ 29)) (pow_pos 29) (omega arith)
    (closest_same (q * 2 ^ d) (2 ^ 29 * 2 ^ d) q (2 ^ 29) (mul-pos (pow_pos 29) (pow_pos d)) (pow_pos 29) (mul_assoc q (2 ^ d) (2 ^ 29) ∙ ap (λ (x : ℕ). q * x) (mul_comm (2 ^ d) (2 ^ 29))))

-- ---- the field 926 - j: subnormal in the 32-bit format
subnormal : (q j k : ℕ) → q < 2 ^ 53 → 30 ≤ j → k + j ≡ 925 → round binary32 false (q * 2 ^ k) (2 ^ 1074) ≡ units binary32 false (closest q (2 ^ j)) 0
subnormal q j k hi lo e =
    let big : 2 ^ 30 ≤ 2 ^ j = pow_mono lo in
    let z : size (q / 2 ^ j) ≤ 23 = size-le (q / 2 ^ j) 23 ((div-lt_iff_lt-mul (pow_pos j)).1 (omega arith)) in
    round_same binary32 false (q * 2 ^ k) (2 ^ 1074) q (2 ^ j * 2 ^ 149) (pow_pos 1074) (mul-pos (pow_pos j) (pow_pos 149))
    (mul_assoc q (2 ^ k) (2 ^ j * 2 ^ 149)
    ∙ ap (λ (x : ℕ). q * x) (sym (mul_assoc (2 ^ k) (2 ^ j) (2 ^ 149)) ∙ ap (λ (x : ℕ). x * 2 ^ 149) (sym (pow-add 2 k j) ∙ ap (λ (x : ℕ). 2 ^ x) e)))
    ∙ in_units q (2 ^ j) 0 (closest q (2 ^ j)) (pow_pos j) (omega arith) (ap (closest q) (mul-one (2 ^ j)))

size_zero : size 0 - 24 ≡ 0
unfolding size
size_zero = refl

-- ---- less than a half of the smallest 32-bit value
vanishes : (n : ℕ) → n < 2 ^ 924 → round binary32 false n (2 ^ 1074) ≡ units binary32 false 0 0
vanishes n h =
    in_units n (2 ^ 925) 0 0 (pow_pos 925)
    (ap (λ (x : ℕ). size x - 24) (div-eq_of_lt (lt_of_lt_of_le h (pow_mono {i = 924} {j = 925} (lit≤ tt)))) ∙ size_zero)
    (tiny n (2 ^ 925) (mul-lt-mul_of_pos_right h (zero-lt-suc 1)))

-- ---- the four cases as patterns
pattern : (a c d r : ℕ) → round binary32 false a c ≡ units binary32 false r d → r ≤ 2 ^ 24 → (0 < d → 2 ^ 23 ≤ r) → d < 254 → d * 2 ^ 23 + r ≡ to_bits binary32 (round binary32 false a c)
pattern a c d r e h k l = sym (ap (to_bits binary32) e ∙ to_bits_units r d h k l)

undropped : (r : ℕ) → 0 < 0 → 2 ^ 23 ≤ r
undropped r z = absurd (lt_irrefl 0 z)

zero_case : (n : ℕ) → n < 2 ^ 924 → 0 ≡ to_bits binary32 (round binary32 false n (2 ^ 1074))
zero_case n h = pattern n (2 ^ 1074) 0 0 (vanishes n h) zero-le (undropped 0) (lit< tt)

low_le : (q j : ℕ) → q < 2 ^ 53 → 30 ≤ j → closest q (2 ^ j) ≤ 2 ^ 24
low_le q j hi lo =
    let big : 2 ^ 30 ≤ 2 ^ j = pow_mono lo in
    let z : q / 2 ^ j < 2 ^ 23 = (div-lt_iff_lt-mul (pow_pos j)).1 (omega arith) in
    omega (arith, closest_le q (2 ^ j))

low_case : (q j k : ℕ) → q < 2 ^ 53 → 30 ≤ j → k + j ≡ 925 → closest q (2 ^ j) ≡ to_bits binary32 (round binary32 false (q * 2 ^ k) (2 ^ 1074))
low_case q j k hi lo e =
    let r = closest q (2 ^ j) in
    omega (arith, pattern (q * 2 ^ k) (2 ^ 1074) 0 r (subnormal q j k hi lo e) (low_le q j hi lo) (undropped r) (lit< tt))

mid_case : (q d : ℕ) → 2 ^ 52 ≤ q → q < 2 ^ 53 → d < 254 → d * 2 ^ 23 + closest q (2 ^ 29) ≡ to_bits binary32 (round binary32 false (q * 2 ^ (896 + d)) (2 ^ 1074))
mid_case q d lo hi l =
    let g = closest_ge q (2 ^ 29) in
    let h = closest_le q (2 ^ 29) in
    pattern (q * 2 ^ (896 + d)) (2 ^ 1074) d (closest q (2 ^ 29)) (normal q d lo hi) (omega arith) (λ z. omega arith) l

high_case : (q d : ℕ) → 2 ^ 52 ≤ q → q < 2 ^ 53 → 254 ≤ d → 0x7f80_0000 ≡ to_bits binary32 (round binary32 false (q * 2 ^ (896 + d)) (2 ^ 1074))
high_case q d lo hi l =
    let g = closest_ge q (2 ^ 29) in
    sym (ap (to_bits binary32) (normal q d lo hi ∙ units_inf (closest q (2 ^ 29)) d (le_trans (mul-le-mul_left (2 ^ 23) (pow_mono l)) (mul-le-mul_right (2 ^ d) (omega arith)))) ∙ to_bits_inf)

-- ---- a 64-bit pattern, read by its fields
read : (b : ℕ) → b < 2 ^ 63 → of_bits binary64 b ≡ of_fields binary64 false (b / 2 ^ 52) (b % 2 ^ 52)
unfolding of_bits
read b h =
    ap (λ (t : Bool). of_fields binary64 t (b % 2 ^ 63 / 2 ^ 52) (b % 2 ^ 52)) (is_false (leb (2 ^ 63) b) (lt→nleb (2 ^ 63) b h))
    ∙ ap (λ (x : ℕ). of_fields binary64 false (x / 2 ^ 52) (b % 2 ^ 52)) (mod-eq_of_lt h)

at_zero : (t : ℕ) → narrowed (of_fields binary64 false 0 t) ≡ round binary32 false (t * 2 ^ 0) (2 ^ 1074)
unfolding of_fields
at_zero t = narrowed_odd t 0

at_suc : (k t : ℕ) → k < 2046 → narrowed (of_fields binary64 false (suc k) t) ≡ round binary32 false ((t + 2 ^ 52) * 2 ^ k) (2 ^ 1074)
unfolding of_fields
at_suc k t h =
    ap narrowed (cond_no (eqb (suc k) 2047) (cond (eqb t 0) (inf false) nan) (odd 53 false (2 ^ 52 + t) k 1074) (not_T (eqb (suc k) 2047) (λ u. no (eqb→eq (suc k) 2047 u))))
    ∙ narrowed_odd (2 ^ 52 + t) k
    ∙ ap (λ (x : ℕ). round binary32 false (x * 2 ^ k) (2 ^ 1074)) (add_comm (2 ^ 52) t)
  where
    no : suc k ≡ 2047 → ⊥
    no e = omega arith

at_inf : narrowed (of_fields binary64 false 2047 0) ≡ inf false
unfolding of_fields narrowed
at_inf = refl

at_field : (E k t : ℕ) → suc k ≡ E → k < 2046 → round binary32 false ((t + 2 ^ 52) * 2 ^ k) (2 ^ 1074) ≡ narrowed (of_fields binary64 false E t)
at_field E k t e h = sym (at_suc k t h) ∙ ap (λ (x : ℕ). narrowed (of_fields binary64 false x t)) e

-- ---- the pattern whose field is E and whose digits are t narrows to the pattern r
abbrev pub Reads : ℕ → ℕ → ℕ → Type 0
Reads E t r = r ≡ to_bits binary32 (narrowed (of_fields binary64 false E t))

pub whole_pattern : (b r : ℕ) → b ≤ 2047 * 2 ^ 52 → Reads (b / 2 ^ 52) (b % 2 ^ 52) r → r ≡ to_bits binary32 (narrowed (of_bits binary64 b))
whole_pattern b r h f = f ∙ ap (λ (x : Float). to_bits binary32 (narrowed x)) (sym (read b (omega arith)))

pub reads_zero : (E t : ℕ) → E < 873 → t < 2 ^ 52 → Reads E t 0
reads_zero zero t h l = zero_case (t * 2 ^ 0) (lt_of_le_of_lt (le_of_eq (mul-one t)) (lt_of_lt_of_le l (lit≤ tt))) ∙ ap (to_bits binary32) (sym (at_zero t))
reads_zero (suc k) t h l =
    let small : t + 2 ^ 52 < 2 ^ 53 = omega arith in
    let low : k ≤ 871 = omega arith in
    zero_case ((t + 2 ^ 52) * 2 ^ k) (lt_of_lt_of_le (mul-lt-mul_of_pos_right small (pow_pos k)) (mul-le-mul_left (2 ^ 53) (pow_mono low))) ∙ ap (to_bits binary32) (sym (at_suc k t (omega arith)))

pub reads_low : (E t : ℕ) → 873 ≤ E → E < 897 → t < 2 ^ 52 → Reads E t (closest (t + 2 ^ 52) (2 ^ (926 - E)))
reads_low E t g h l = low_case (t + 2 ^ 52) (926 - E) (E - 1) (omega arith) (omega arith) (omega arith) ∙ ap (to_bits binary32) (at_field E (E - 1) t (omega arith) (omega arith))

pub reads_mid : (E t : ℕ) → 897 ≤ E → E < 1151 → t < 2 ^ 52 → Reads E t ((E - 897) * 2 ^ 23 + closest (t + 2 ^ 52) (2 ^ 29))
reads_mid E t g h l = mid_case (t + 2 ^ 52) (E - 897) (omega arith) (omega arith) (omega arith) ∙ ap (to_bits binary32) (at_field E (896 + (E - 897)) t (omega arith) (omega arith))

pub reads_high : (E t : ℕ) → 1151 ≤ E → E < 2047 → t < 2 ^ 52 → Reads E t 0x7f80_0000
reads_high E t g h l = high_case (t + 2 ^ 52) (E - 897) (omega arith) (omega arith) (omega arith) ∙ ap (to_bits binary32) (at_field E (896 + (E - 897)) t (omega arith) (omega arith))

pub reads_inf : Reads 2047 0 0x7f80_0000
reads_inf = sym (ap (to_bits binary32) at_inf ∙ to_bits_inf)

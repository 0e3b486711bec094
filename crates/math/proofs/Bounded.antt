-- How a bound on the size goes through a product and a quotient: where the exact result is at most p / q and the format holds p / q, the rounded one is at most p / q.
-- Assumes nothing.
use mathlib.Core.Path.{◌≡◌, refl, sym, ap, ◌∙◌, subst}
use mathlib.Core.Bool.{true, false, cond, true≢false}
use Prim.Native.Nat.{ℕ, suc, ◌+◌, ◌-◌, ◌*◌, ◌^◌, ◌≤◌, ◌<◌}
use native.Mathlib.Nat.{le_trans, le_of_eq, lt_of_lt_of_le, mul-one, mul_comm, mul_assoc, mul_left_comm, mul-pos, mul-le-mul, mul-le-mul_right, le_of_mul-le-mul_right}
use native.Mathlib.Omega.{arith}
use lib.Dec.{eqb, eqb→eq, ltb→lt, not_T}
use lib.Pow.{pow-add, pow_pos, pow_mono, shl_lt}
use lib.Ieee.{Float, nan, inf, fin, Format, prec, emax, low, up, down, unlike, round, mul, div}
use lib.Ieee.Fits.{up_pos, down_pos, reach}
use lib.Ieee.Bits.{cond_no}
use lib.Ieee.Exact.{HasValue, round_exact}
use lib.Ieee.Positive.{positive_of_value}
use lib.Ieee.Scale.{finite}
use Rattle.math.specs.Sign.{magnitude}
use Rattle.math.proofs.Rounded.{AtMost, round_at_most}
use Rattle.math.proofs.Sign.{round_magnitude}

-- ---- j / 2 ^ k is a value of the format, if j has no more digits than the format keeps
pub holds : (f : Format) (j k : ℕ) → j < 2 ^ prec f → k ≤ low f → HasValue (round f false j (2 ^ k)) false j (2 ^ k)
holds f j k few fine =
    let r = reach f in
    let room : prec f + (low f - k) ≤ low f + suc (emax f) = omega arith in
    round_exact f false j (2 ^ k) j (low f - k) (pow_pos k) few (lt_of_lt_of_le (shl_lt (prec f) (low f - k) few) (pow_mono room))
    (sym (mul_assoc j (2 ^ (low f - k)) (2 ^ k) ∙ ap (λ (x : ℕ). j * x) (sym (pow-add 2 (low f - k) k) ∙ ap (λ (x : ℕ). 2 ^ x) (omega arith))))

pub at_value : (x : Float) (a c : ℕ) → HasValue x false a c → AtMost (magnitude x) a c
unfolding magnitude
at_value nan a c v = absurd v
at_value (inf s) a c v = absurd v
at_value (fin s m e) a c v = (refl, le_of_eq v.1)

pub bounded_finite : (x : Float) (a c : ℕ) → AtMost (magnitude x) a c → finite x ≡ true
unfolding magnitude
bounded_finite nan a c h = absurd h
bounded_finite (inf s) a c h = absurd h
bounded_finite (fin s m e) a c h = refl

-- ---- the bounds, as fractions: x / dx and y / dy are the two values
product : (x dx y dy a c b d p q : ℕ) → 0 < c → 0 < d → x * c ≤ a * dx → y * d ≤ b * dy → a * b * q ≤ p * (c * d) → x * y * q ≤ p * (dx * dy)
product x dx y dy a c b d p q C D h k l =
    let left : x * y * q * (c * d) ≡ x * c * (y * d) * q = simp (mul_assoc, mul_comm, mul_left_comm) in
    let middle : a * dx * (b * dy) * q ≡ a * b * q * (dx * dy) = simp (mul_assoc, mul_comm, mul_left_comm) in
    let right : p * (c * d) * (dx * dy) ≡ p * (dx * dy) * (c * d) = simp (mul_assoc, mul_comm, mul_left_comm) in
    le_of_mul-le-mul_right
    (le_trans (le_of_eq left) (le_trans (mul-le-mul_right q (mul-le-mul h k)) (le_trans (le_of_eq middle) (le_trans (mul-le-mul_right (dx * dy) l) (le_of_eq right)))))
    (mul-pos C D)

quotient : (x dx y dy a c b p q : ℕ) → 0 < c → x * c ≤ a * dx → y ≡ b * dy → a * q ≤ p * (c * b) → x * dy * q ≤ p * (y * dx)
quotient x dx y dy a c b p q C h e l =
    let left : x * dy * q * c ≡ x * c * (dy * q) = simp (mul_assoc, mul_comm, mul_left_comm) in
    let middle : a * dx * (dy * q) ≡ a * q * (dx * dy) = simp (mul_assoc, mul_comm, mul_left_comm) in
    let right : p * (c * b) * (dx * dy) ≡ p * (b * dy * dx) * c = simp (mul_assoc, mul_comm, mul_left_comm) in
    le_of_mul-le-mul_right
    (le_trans (le_of_eq left)
    (le_trans (mul-le-mul_right (dy * q) h)
    (le_trans (le_of_eq middle) (le_trans (mul-le-mul_right (dx * dy) l) (le_of_eq (right ∙ ap (λ (z : ℕ). p * (z * dx) * c) (sym e)))))))
    C

-- ---- |x| ≤ a / c and |y| ≤ b / d, with a b / (c d) ≤ p / q
pub mul_at_most : (f : Format) (x y : Float) (a c b d p q : ℕ) → 0 < c → 0 < d → 0 < q → HasValue (round f false p q) false p q → AtMost (magnitude x) a c → AtMost (magnitude y) b d
    → a * b * q ≤ p * (c * d) → AtMost (magnitude (mul f x y)) p q
unfolding magnitude mul
mul_at_most f nan y a c b d p q C D Q v h k l = absurd h
mul_at_most f (inf s) y a c b d p q C D Q v h k l = absurd h
mul_at_most f (fin s m e) nan a c b d p q C D Q v h k l = absurd k
mul_at_most f (fin s m e) (inf t) a c b d p q C D Q v h k l = absurd k
mul_at_most f (fin s m e) (fin t n i) a c b d p q C D Q v h k l =
    subst (λ (z : Float). AtMost z p q) (sym (round_magnitude f (unlike s t) (m * up e * (n * up i)) (down e * down i)))
    (round_at_most f (m * up e * (n * up i)) (down e * down i) p q (mul-pos (down_pos e) (down_pos i)) Q v
    (product (m * up e) (down e) (n * up i) (down i) a c b d p q C D h.1 k.1 l))

-- ---- |x| ≤ a / c and y is the whole number b, with a / (c b) ≤ p / q
pub div_at_most : (f : Format) (x y : Float) (a c b p q : ℕ) → 0 < c → 0 < b → 0 < q → HasValue (round f false p q) false p q → AtMost (magnitude x) a c → HasValue y false b 1
    → a * q ≤ p * (c * b) → AtMost (magnitude (div f x y)) p q
unfolding magnitude div
div_at_most f nan y a c b p q C B Q v h w l = absurd h
div_at_most f (inf s) y a c b p q C B Q v h w l = absurd h
div_at_most f (fin s m e) nan a c b p q C B Q v h w l = absurd w
div_at_most f (fin s m e) (inf t) a c b p q C B Q v h w l = absurd w
div_at_most f (fin s m e) (fin true n i) a c b p q C B Q v h w l = absurd (true≢false w.0)
div_at_most f (fin s m e) (fin false n i) a c b p q C B Q v h w l =
    let N : 0 < n = ltb→lt 0 n (positive_of_value (fin false n i) b 1 w B) in
    let top = m * up e * down i in
    let bottom = n * up i * down e in
    subst (λ (z : Float). AtMost (magnitude z) p q)
    (sym (cond_no (eqb n 0) (cond (eqb m 0) nan (inf (unlike s false))) (round f (unlike s false) top bottom) (not_T (eqb n 0) (λ t. no n N (eqb→eq n 0 t)))))
    (subst (λ (z : Float). AtMost z p q) (sym (round_magnitude f (unlike s false) top bottom))
    (round_at_most f top bottom p q (mul-pos (mul-pos N (up_pos i)) (down_pos e)) Q v
    (quotient (m * up e) (down e) (n * up i) (down i) a c b p q C h.1 (sym (mul-one (n * up i)) ∙ w.1) l)))
  where
    no : (n : ℕ) → 0 < n → n ≡ 0 → ⊥
    no n h e = omega arith

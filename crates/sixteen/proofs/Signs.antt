-- `to_i16` and `step_count` by the sign of x: 0 or above, below 0, and the NaN that is neither. Assumes nothing.
use Rattle.std.proofs.Common.{◌≡◌, ℕ, ◌+◌, ◌*◌, ◌<◌, ◌≤◌, min, true, false, not, T, eqb, ℤ, pos, neg_ℤ, sym, refl, ap, ◌∙◌, arith, ltb→lt, nltb→le, T_not}
use native.Mathlib.Nat.{div-eq_of_lt}
use lib.Ieee.{Float, nan, inf, fin, up, down, lt, le, neg}
use lib.Ieee.Fits.{and_i, eq→eqb, down_pos}
use lib.Ieee.Order.{le_of_values}
use Rattle.math.specs.Numerals.{nought}
use Rattle.sixteen.specs.Sixteen.{half_up, step_count, to_i16}

pub steps_le : (x : Float) → step_count x ≤ 32768
unfolding step_count
steps_le nan = omega arith
steps_le (inf s) = omega arith
steps_le (fin s m e) = omega arith

-- ---- below 0
not_below : (m : ℕ) (e : ℤ) → T (lt (fin false m e) nought) → ⊥
unfolding lt
not_below m e t = omega (arith, ltb→lt (m * up e * 1) (0 * 1 * down e) t)

pub down_is : (x : Float) → T (lt x nought) → to_i16 x ≡ neg_ℤ (pos (step_count x))
unfolding to_i16 step_count
down_is nan t = unfold lt in absurd t
down_is (inf true) t = refl
down_is (inf false) t = unfold lt in absurd t
down_is (fin true m e) t = refl
down_is (fin false m e) t = absurd (not_below m e t)

pub steps_neg : (x : Float) → step_count (neg x) ≡ step_count x
unfolding step_count neg
steps_neg nan = refl
steps_neg (inf s) = refl
steps_neg (fin s m e) = refl

nought_le : (m : ℕ) (e : ℤ) → T (le nought (fin false m e))
nought_le m e = le_of_values nought (fin false m e) 0 1 (m * up e) (down e) (omega arith) (down_pos e) (refl, refl) (refl, refl) (omega arith)

pub neg_above : (x : Float) → T (lt x nought) → T (le nought (neg x))
unfolding neg
neg_above nan t = unfold lt in absurd t
neg_above (inf true) t = unfold le in tt
neg_above (inf false) t = unfold lt in absurd t
neg_above (fin true m e) t = nought_le m e
neg_above (fin false m e) t = absurd (not_below m e t)

-- ---- not below 0: 0.0 and -0.0 too, and a NaN
capped : (h : ℕ) → min h 32767 ≡ min (min h 32768) 32767
capped h = omega arith

zero_is : (m : ℕ) (e : ℤ) → T (not (lt (fin true m e) nought)) → m * up e ≡ 0
unfolding lt
zero_is m e t = omega (arith, nltb→le 0 (m * up e * 1 + 0 * 1 * down e) t)

of_zero : (a c : ℕ) → 0 < c → a ≡ 0 → half_up (a * 32768) c ≡ 0
of_zero a c p e = div-eq_of_lt {n = 2 * (a * 32768) + c} (omega arith)

pub up_is : (x : Float) → T (not (lt x nought)) → to_i16 x ≡ pos (min (step_count x) 32767)
unfolding to_i16 step_count
up_is nan t = refl
up_is (inf true) t = unfold lt in absurd t
up_is (inf false) t = refl
up_is (fin false m e) t = ap pos (capped (half_up (m * up e * 32768) (down e)))
up_is (fin true m e) t =
    let h : half_up (m * up e * 32768) (down e) ≡ 0 = of_zero (m * up e) (down e) (down_pos e) (zero_is m e t) in
    ap (λ (k : ℕ). neg_ℤ (pos (min k 32768))) h ∙ ap (λ (k : ℕ). pos (min (min k 32768) 32767)) (sym h)

-- ---- neither
signed_zero : (m : ℕ) (e : ℤ) → m * up e ≡ 0 → T (le nought (fin true m e))
unfolding le
signed_zero m e a =
    and_i (eqb (0 * 1 * down e) (m * up e * 1)) (eqb (0 * 1 * down e) 0) (eq→eqb {a = 0 * 1 * down e} {b = m * up e * 1} (omega arith)) (eq→eqb {a = 0 * 1 * down e} {b = 0} (omega arith))

pub neither : (x : Float) → T (not (le nought x)) → T (not (lt x nought)) → 0 ≡ step_count x
unfolding step_count
neither nan l t = refl
neither (inf true) l t = unfold lt in absurd t
neither (inf false) l t = unfold le in absurd l
neither (fin true m e) l t = absurd (T_not (le nought (fin true m e)) l (signed_zero m e (zero_is m e t)))
neither (fin false m e) l t = absurd (T_not (le nought (fin false m e)) l (nought_le m e))

-- Below 1.0, half steps cut to a whole number, one more and to-halves, are the nearest whole steps. From 1.0 on there are 32768. Assumes nothing.
use Rattle.std.proofs.Common.{◌≡◌, ℕ, ◌+◌, ◌-◌, ◌*◌, ◌/◌, ◌^◌, ◌<◌, ◌≤◌, min, Bool, true, false, not, ◌&&◌, ◌||◌, T, eqb, ltb, ℤ, pos, sym, refl, ap, ◌∙◌, subst, true≢false, le_trans, le_of_eq, lt_of_lt_of_le, mul-le-mul_right, mul_comm, div-lt_iff_lt-mul, lt_of_mul-lt-mul_right, mul-lt-mul_of_pos_right, le-div_iff_mul-le, mul_right_comm, arith, lit<, lit≤, eqb→eq, ltb→lt, lt→ltb, nltb→le}
use native.Mathlib.Nat.{mul-add-div, div-div-eq-div-mul, eq_of_mul-eq-mul_right, zero-div}
use lib.Ieee.{Float, nan, inf, fin, binary32, up, down, fits, lt, le, mul, to_unsigned}
use lib.Ieee.Fits.{and_l, and_r, down_pos, eq→eqb}
use lib.Ieee.Exact.{HasValue}
use lib.Ieee.Nearest.{div_same}
use Rattle.math.specs.Numerals.{nought}
use Rattle.sixteen.specs.Sixteen.{half_up, step_count}
use Rattle.sixteen.proofs.Exact.{mul_pow_exact}

-- ---- what the two comparisons say of a finite x
abbrev full_scale : Float
full_scale = fin false 1 (pos 0)

nor_l : (p q : Bool) → T (not (p || q)) → T (not p)
nor_l true q t = t
nor_l false q t = tt

nor_r : (p q : Bool) → T (not (p || q)) → T (not q)
nor_r true q t = absurd t
nor_r false q t = t

and_true : (p : Bool) → T (not (p && true)) → T p → ⊥
and_true true t u = t
and_true false t u = u

differ : (a b : ℕ) → T (not (ltb a b || (eqb a b && true))) → b < a
differ a b t =
    let h : b ≤ a = nltb→le a b (nor_l (ltb a b) (eqb a b && true) t) in
    let n : a ≡ b → ⊥ = (λ e. and_true (eqb a b) (nor_r (ltb a b) (eqb a b && true) t) (eq→eqb e)) in
    omega arith

-- x is below 1, and is 0 if it has a minus sign
record Below (s : Bool) (m : ℕ) (e : ℤ) : Type 0 where
  under : m * up e < down e
  signed : s ≡ true → m * up e ≡ 0

below : (s : Bool) (m : ℕ) (e : ℤ) → T (le nought (fin s m e)) → T (not (le full_scale (fin s m e))) → Below s m e
unfolding le
below false m e z o = record { under = omega (arith, differ (1 * 1 * down e) (m * up e * 1) o); signed = λ q. absurd (true≢false (sym q)) }
below true m e z o =
    let h : 0 * 1 * down e ≡ m * up e * 1 = eqb→eq (0 * 1 * down e) (m * up e * 1) (and_l (eqb (0 * 1 * down e) (m * up e * 1)) (eqb (0 * 1 * down e) 0) z) in
    record { under = omega (arith, down_pos e); signed = λ _. omega arith }

-- ---- a float y with the value a / c below 65536, which is 0 if y has a minus sign: it may be cut, and is a / c cut
record Cut (y : Float) (q : ℕ) : Type 0 where
  pub above : T (lt (fin true 1 (pos 0)) y)
  pub inside : T (lt y (fin false 1 (pos 64)))
  pub is : to_unsigned 64 y ≡ q

zero_product : (n c d : ℕ) → 0 < c → n * c ≡ 0 * d → n ≡ 0
zero_product n c d p h = eq_of_mul-eq-mul_right c p n 0 (omega arith)

scaled_down : (n c a d : ℕ) → 0 < d → n * c ≡ a * d → a < 65536 * c → n < 65536 * d
scaled_down n c a d p h l =
    lt_of_mul-lt-mul_right c (subst (λ (z : ℕ). z < 65536 * d * c) (sym h) (subst (λ (z : ℕ). a * d < z) (mul_right_comm 65536 c d) (mul-lt-mul_of_pos_right l p)))

not_capped : (n q : ℕ) → n ≡ q → q < 65536 → min n (2 ^ 64 - 1) ≡ q
not_capped n q e h = omega arith

cut : (y : Float) (s : Bool) (a c : ℕ) → 0 < c → a < 65536 * c → (s ≡ true → a ≡ 0) → HasValue y s a c → Cut y (a / c)
unfolding lt to_unsigned
cut nan s a c p l z v = absurd v
cut (inf t) s a c p l z v = absurd v
cut (fin false n d) s a c p l z v =
    let h : n * up d < 65536 * down d = scaled_down (n * up d) c a (down d) (down_pos d) v.1 l in
    record {
      above = lt→ltb 0 (1 * 1 * down d + n * up d * 1) (omega (arith, down_pos d));
      inside = lt→ltb (n * up d * 1) (1 * 2 ^ 64 * down d) (omega (arith, h));
      is = not_capped (n * up d / down d) (a / c) (div_same (n * up d) (down d) a c (down_pos d) p v.1) ((div-lt_iff_lt-mul p).1 l);
    }
cut (fin true n d) s a c p l z v =
    let a0 : a ≡ 0 = z (sym v.0) in
    let h : n * up d ≡ 0 = zero_product (n * up d) c (down d) p (v.1 ∙ ap (λ (k : ℕ). k * down d) a0) in
    record {
      above = lt→ltb (n * up d * 1) (1 * 1 * down d) (omega (arith, h, down_pos d));
      inside = lt→ltb 0 (n * up d * 1 + 1 * 2 ^ 64 * down d) (omega (arith, down_pos d));
      is = sym (ap (λ (k : ℕ). k / c) a0 ∙ zero-div c);
    }

-- ---- x * 65536, cut
abbrev halves : Float → Float
halves x = mul binary32 x (fin false 1 (pos 16))

room : (a c : ℕ) → a < c → a * 65536 < 2 ^ 128 * c
room a c h = lt_of_lt_of_le (mul-lt-mul_of_pos_right h (lit< tt)) (le_trans (le_of_eq (mul_comm c 65536)) (mul-le-mul_right c (lit≤ tt)))

halves_cut : (s : Bool) (m : ℕ) (e : ℤ) → T (fits binary32 (fin s m e)) → Below s m e → Cut (halves (fin s m e)) (m * up e * 65536 / down e)
halves_cut s m e t b =
    cut (halves (fin s m e)) s (m * up e * 65536) (down e) (down_pos e) (omega (arith, b.under)) (λ q. ap (λ (k : ℕ). k * 65536) (b.signed q))
    (mul_pow_exact binary32 s m e 16 t (room (m * up e) (down e) b.under))

-- ---- from half steps to steps
nearest_of_halves : (a c : ℕ) → a < c → (a * 65536 / c + 1) / 2 ≡ min (half_up (a * 32768) c) 32768
nearest_of_halves a c h =
    let p : 0 < c = omega arith in
    let q = a * 65536 / c in
    let e1 : 2 * (a * 32768) + c ≡ c * 1 + a * 65536 = omega arith in
    let e2 : half_up (a * 32768) c ≡ (1 + q) / 2 =
    ap (λ (k : ℕ). k / (2 * c)) e1 ∙ ap (λ (k : ℕ). (c * 1 + a * 65536) / k) (mul_comm 2 c) ∙ sym (div-div-eq-div-mul (c * 1 + a * 65536) c 2) ∙ ap (λ (k : ℕ). k / 2) (mul-add-div p 1 (a * 65536)) in
    let l : q < 65536 = (div-lt_iff_lt-mul p).1 (omega arith) in
    omega arith

full : (a c : ℕ) → 0 < c → c ≤ a → 32768 ≡ min (half_up (a * 32768) c) 32768
full a c p h =
    let d : 0 < 2 * c = omega arith in
    let g : 32768 ≤ half_up (a * 32768) c = (le-div_iff_mul-le d).1 (omega arith) in
    omega arith

-- ---- what `nearest_steps` needs of x: below 1.0, and from 1.0 on
pub record Halved (x : Float) : Type 0 where
  pub above : T (lt (fin true 1 (pos 0)) (halves x))
  pub inside : T (lt (halves x) (fin false 1 (pos 64)))
  pub small : to_unsigned 64 (halves x) < 65536
  pub is : (to_unsigned 64 (halves x) + 1) / 2 ≡ step_count x

pub to_halves : (x : Float) → T (fits binary32 x) → T (le nought x) → T (not (le full_scale x)) → Halved x
unfolding step_count
to_halves nan t z o = unfold le in absurd z
to_halves (inf true) t z o = unfold le in absurd z
to_halves (inf false) t z o = unfold le in absurd o
to_halves (fin s m e) t z o =
    let b = below s m e z o in
    let k = halves_cut s m e t b in
    record {
      above = k.above;
      inside = k.inside;
      small = subst (λ (q : ℕ). q < 65536) (sym k.is) ((div-lt_iff_lt-mul (down_pos e)).1 (omega (arith, b.under)));
      is = ap (λ (q : ℕ). (q + 1) / 2) k.is ∙ nearest_of_halves (m * up e) (down e) b.under;
    }

one_of_two : (p q : Bool) (X : Type 0) → (T p → X) → (T q → X) → T (p || q) → X
one_of_two true q X f g t = f tt
one_of_two false q X f g t = g t

le_of_test : (a b : ℕ) → T (ltb a b || (eqb a b && true)) → a ≤ b
le_of_test a b t = one_of_two (ltb a b) (eqb a b && true) (a ≤ b) (λ u. omega (arith, ltb→lt a b u)) (λ u. le_of_eq (eqb→eq a b (and_l (eqb a b) true u))) t

pub from_one : (x : Float) → T (le full_scale x) → 32768 ≡ step_count x
unfolding step_count le
from_one nan t = absurd t
from_one (inf s) t = refl
from_one (fin false m e) t = full (m * up e) (down e) (down_pos e) (omega (arith, le_of_test (1 * 1 * down e) (m * up e * 1) t))
from_one (fin true m e) t =
    let h : 1 * 1 * down e ≡ 0 = eqb→eq (1 * 1 * down e) 0 (and_r (eqb (1 * 1 * down e) (m * up e * 1)) (eqb (1 * 1 * down e) 0) t) in
    omega (arith, down_pos e)

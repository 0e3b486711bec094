-- -x in a product and a quotient: one sign goes through to the result, two of them cancel, and |..| takes it off. Assumes nothing.
use mathlib.Core.Path.{◌≡◌, refl, sym, ap, ◌∙◌}
use mathlib.Core.Bool.{Bool, true, false, not, cond}
use Prim.Native.Nat.{ℕ, ◌*◌}
use lib.Dec.{eqb}
use lib.IntN.{pos}
use lib.Ieee.{Float, nan, inf, fin, Format, unlike, up, down, round, neg, mul, div, is_nan}
use Rattle.math.specs.Sign.{magnitude}
use Rattle.math.proofs.Sign.{round_sign}

pub neg-neg : (x : Float) → neg (neg x) ≡ x
unfolding neg
neg-neg nan = refl
neg-neg (inf true) = refl
neg-neg (inf false) = refl
neg-neg (fin true m e) = refl
neg-neg (fin false m e) = refl

pub magnitude_neg : (x : Float) → magnitude (neg x) ≡ magnitude x
unfolding magnitude neg
magnitude_neg nan = refl
magnitude_neg (inf s) = refl
magnitude_neg (fin s m e) = refl

pub real_neg : (x : Float) → is_nan x ≡ false → is_nan (neg x) ≡ false
unfolding is_nan neg
real_neg nan h = h
real_neg (inf s) h = refl
real_neg (fin s m e) h = refl

-- ---- the sign of a product and a quotient
unlike_first : (s t : Bool) → unlike (not s) t ≡ not (unlike s t)
unlike_first true true = refl
unlike_first true false = refl
unlike_first false true = refl
unlike_first false false = refl

unlike_second : (s t : Bool) → unlike s (not t) ≡ not (unlike s t)
unlike_second true true = refl
unlike_second true false = refl
unlike_second false true = refl
unlike_second false false = refl

unlike_both : (s t : Bool) → unlike (not s) (not t) ≡ unlike s t
unlike_both true true = refl
unlike_both true false = refl
unlike_both false true = refl
unlike_both false false = refl

-- ---- what the other sign makes of a rounded number, and of an infinity unless it is a NaN
round_not : (f : Format) (s : Bool) (a c : ℕ) → round f (not s) a c ≡ neg (round f s a c)
round_not f true a c = sym (neg-neg (round f false a c)) ∙ ap neg (sym (round_sign f true a c))
round_not f false a c = round_sign f true a c

inf_not : (b s : Bool) → cond b nan (inf (not s)) ≡ neg (cond b nan (inf s))
unfolding neg
inf_not true s = refl
inf_not false s = refl

quotient_not : (f : Format) (b z s : Bool) (a c : ℕ) → cond b (cond z nan (inf (not s))) (round f (not s) a c) ≡ neg (cond b (cond z nan (inf s)) (round f s a c))
quotient_not f true z s a c = inf_not z s
quotient_not f false z s a c = round_not f s a c

pub mul_neg_first : (f : Format) (x y : Float) → mul f (neg x) y ≡ neg (mul f x y)
unfolding mul neg
mul_neg_first f nan y = refl
mul_neg_first f (inf s) nan = refl
mul_neg_first f (inf s) (inf t) = ap inf (unlike_first s t)
mul_neg_first f (inf s) (fin t n d) = ap (λ (u : Bool). cond (eqb n 0) nan (inf u)) (unlike_first s t) ∙ inf_not (eqb n 0) (unlike s t)
mul_neg_first f (fin s m e) nan = refl
mul_neg_first f (fin s m e) (inf t) = ap (λ (u : Bool). cond (eqb m 0) nan (inf u)) (unlike_first s t) ∙ inf_not (eqb m 0) (unlike s t)
mul_neg_first f (fin s m e) (fin t n d) =
    ap (λ (u : Bool). round f u (m * up e * (n * up d)) (down e * down d)) (unlike_first s t) ∙ round_not f (unlike s t) _ _

pub mul_neg_second : (f : Format) (x y : Float) → mul f x (neg y) ≡ neg (mul f x y)
unfolding mul neg
mul_neg_second f nan y = refl
mul_neg_second f (inf s) nan = refl
mul_neg_second f (inf s) (inf t) = ap inf (unlike_second s t)
mul_neg_second f (inf s) (fin t n d) = ap (λ (u : Bool). cond (eqb n 0) nan (inf u)) (unlike_second s t) ∙ inf_not (eqb n 0) (unlike s t)
mul_neg_second f (fin s m e) nan = refl
mul_neg_second f (fin s m e) (inf t) = ap (λ (u : Bool). cond (eqb m 0) nan (inf u)) (unlike_second s t) ∙ inf_not (eqb m 0) (unlike s t)
mul_neg_second f (fin s m e) (fin t n d) =
    ap (λ (u : Bool). round f u (m * up e * (n * up d)) (down e * down d)) (unlike_second s t) ∙ round_not f (unlike s t) _ _

pub div_neg_first : (f : Format) (x y : Float) → div f (neg x) y ≡ neg (div f x y)
unfolding div neg
div_neg_first f nan y = refl
div_neg_first f (inf s) nan = refl
div_neg_first f (inf s) (inf t) = refl
div_neg_first f (inf s) (fin t n d) = ap inf (unlike_first s t)
div_neg_first f (fin s m e) nan = refl
div_neg_first f (fin s m e) (inf t) = ap (λ (u : Bool). fin u 0 (pos 0)) (unlike_first s t)
div_neg_first f (fin s m e) (fin t n d) =
    ap (λ (u : Bool). cond (eqb n 0) (cond (eqb m 0) nan (inf u)) (round f u (m * up e * down d) (n * up d * down e))) (unlike_first s t)
    ∙ quotient_not f (eqb n 0) (eqb m 0) (unlike s t) _ _

pub div_neg_both : (f : Format) (x y : Float) → div f (neg x) (neg y) ≡ div f x y
unfolding div neg
div_neg_both f nan y = refl
div_neg_both f (inf s) nan = refl
div_neg_both f (inf s) (inf t) = refl
div_neg_both f (inf s) (fin t n d) = ap inf (unlike_both s t)
div_neg_both f (fin s m e) nan = refl
div_neg_both f (fin s m e) (inf t) = ap (λ (u : Bool). fin u 0 (pos 0)) (unlike_both s t)
div_neg_both f (fin s m e) (fin t n d) =
    ap (λ (u : Bool). cond (eqb n 0) (cond (eqb m 0) nan (inf u)) (round f u (m * up e * down d) (n * up d * down e))) (unlike_both s t)

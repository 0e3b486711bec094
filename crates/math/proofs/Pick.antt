-- What the answer of a test tells, and what `cond` picks by it. Assumes nothing.
use mathlib.Core.Path.{◌≡◌, sym, ap, subst}
use mathlib.Core.Bool.{Bool, true, false, not, cond}
use lib.Dec.{T}

pub passed : {b : Bool} → b ≡ true → T b
passed e = subst T (sym e) tt

pub failed : {b : Bool} → b ≡ false → T (not b)
failed e = subst (λ (b : Bool). T (not b)) (sym e) tt

pub on_true : {A : Type 0} {b : Bool} (x y : A) → b ≡ true → x ≡ cond b x y
on_true x y e = sym (ap (λ (t : Bool). cond t x y) e)

pub on_false : {A : Type 0} {b : Bool} (x y : A) → b ≡ false → y ≡ cond b x y
on_false x y e = sym (ap (λ (t : Bool). cond t x y) e)

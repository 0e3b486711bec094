-- Floats with the same bits: they are equal, each but a NaN is the same as itself, and for values of f32 the bits decide. Assumes nothing.
use mathlib.Core.Path.{◌≡◌, refl, sym, ap, ◌∙◌, subst}
use mathlib.Core.Bool.{Bool, true, false, ◌&&◌, beq, true≢false}
use borrow.Author.Tests.{eq-eqb, eqb-true}
use lib.Dec.{T, eqb}
use lib.IntN.{ℤ, pos, negsuc}
use lib.Ieee.{Float, nan, inf, fin, binary32, fits, eq, ne, is_nan, of_bits, to_bits}
use lib.Ieee.Bits.{of_bits-to_bits}
use lib.Ieee.Compare.{differs_from_itself}
use Rattle.state.specs.Belongs.{same_exponent, same_bits}
use Rattle.sizes.proofs.Tests.{both}
use Rattle.state.proofs.Tests.{by_test}

-- ---- the same bits: equal
same_sign : (s t : Bool) → beq s t ≡ true → s ≡ t
same_sign true true e = refl
same_sign true false e = absurd (true≢false (sym e))
same_sign false true e = absurd (true≢false (sym e))
same_sign false false e = refl

equal_exponents : (e d : ℤ) → same_exponent e d ≡ true → e ≡ d
equal_exponents (pos j) (pos k) h = ap pos (eqb-true j k h)
equal_exponents (pos j) (negsuc k) h = absurd (true≢false (sym h))
equal_exponents (negsuc j) (pos k) h = absurd (true≢false (sym h))
equal_exponents (negsuc j) (negsuc k) h = ap negsuc (eqb-true j k h)

pub same_equal : (a b : Float) → same_bits a b ≡ true → a ≡ b
unfolding same_bits
same_equal nan b h = absurd (true≢false (sym h))
same_equal (inf s) nan h = absurd (true≢false (sym h))
same_equal (inf s) (inf t) h = ap inf (same_sign s t h)
same_equal (inf s) (fin t n d) h = absurd (true≢false (sym h))
same_equal (fin s m e) nan h = absurd (true≢false (sym h))
same_equal (fin s m e) (inf t) h = absurd (true≢false (sym h))
same_equal (fin s m e) (fin t n d) h =
    let p = both (beq s t && eqb m n) (same_exponent e d) h in
    let q = both (beq s t) (eqb m n) p.0 in
    rw (same_sign s t q.0, eqb-true m n q.1, equal_exponents e d p.1)

-- ---- equal, and no NaN: the same bits
sign_itself : (s : Bool) → beq s s ≡ true
sign_itself true = refl
sign_itself false = refl

exponent_itself : (e : ℤ) → same_exponent e e ≡ true
exponent_itself (pos k) = eq-eqb k k refl
exponent_itself (negsuc k) = eq-eqb k k refl

pub same_self : (x : Float) → is_nan x ≡ false → same_bits x x ≡ true
unfolding same_bits is_nan
same_self nan h = absurd (true≢false h)
same_self (inf s) h = sign_itself s
same_self (fin s m e) h = rw (sign_itself s, eq-eqb m m refl, exponent_itself e)

-- ---- equal as floats: neither is a NaN
pub real_first : (a b : Float) → eq a b ≡ true → is_nan a ≡ false
unfolding eq is_nan
real_first nan b e = absurd (true≢false (sym e))
real_first (inf s) b e = refl
real_first (fin s m k) b e = refl

pub real_second : (a b : Float) → eq a b ≡ true → is_nan b ≡ false
unfolding eq is_nan
real_second nan b e = absurd (true≢false (sym e))
real_second (inf s) nan e = absurd (true≢false (sym e))
real_second (fin s m k) nan e = absurd (true≢false (sym e))
real_second a (inf t) e = refl
real_second a (fin t n d) e = refl

-- ---- not equal as floats: not the same bits
no_nan : (b : Float) → same_bits nan b ≡ false
unfolding same_bits
no_nan b = refl

pub unequal : (a b : Float) → eq a b ≡ false → same_bits a b ≡ false
unfolding ne
unequal a b e =
    by_test (same_bits a b)
    (λ t.
    let differs : T (ne a b) = rw e tt in
    let a-nan : a ≡ nan = differs_from_itself a (subst (λ (x : Float). T (ne a x)) (sym (same_equal a b t)) differs) in
    absurd (true≢false (sym t ∙ rw a-nan (no_nan b))))
    (λ t. t)

-- ---- two values of f32 that are no NaN: their bits decide
pub by_bits : (a b : Float) → T (fits binary32 a) → T (fits binary32 b) → is_nan a ≡ false
    → same_bits a b ≡ eqb (to_bits binary32 a) (to_bits binary32 b)
by_bits a b p q h =
    by_test (eqb (to_bits binary32 a) (to_bits binary32 b))
    (λ t.
    let e : a ≡ b = sym (of_bits-to_bits binary32 a p) ∙ ap (of_bits binary32) (eqb-true _ _ t) ∙ of_bits-to_bits binary32 b q in
    subst (λ (x : Float). same_bits a x ≡ true) e (same_self a h) ∙ sym t)
    (λ t.
    by_test (same_bits a b)
    (λ u. absurd (true≢false (sym (eq-eqb _ _ (ap (to_bits binary32) (same_equal a b u))) ∙ t)))
    (λ u. u ∙ sym t))

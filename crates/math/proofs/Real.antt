-- Which values are a NaN and which are none: by the test `x != x`, by the sign + of which `Plain` speaks, and what is rounded or added. Assumes nothing.
use mathlib.Core.Path.{◌≡◌, refl, sym, ◌∙◌, subst}
use mathlib.Core.Bool.{Bool, true, false, not, ◌&&◌, beq, cond, true≢false}
use Prim.Native.Nat.{ℕ, ◌+◌, ◌-◌}
use lib.Dec.{ltb}
use lib.Ieee.{Float, nan, inf, fin, Format, round, neg, sum, add, sub, ne, is_nan}
use lib.Ieee.Compare.{differs_from_itself, nan_differs}
use lib.Ieee.Scale.{finite}
use Rattle.math.specs.Sign.{magnitude}
use Rattle.math.proofs.Rounded.{Plain, round_plain}
use Rattle.math.proofs.Sign.{round_magnitude}
use Rattle.math.proofs.Pick.{passed}

pub unreal : (x : Float) → ne x x ≡ true → x ≡ nan
unreal x h = differs_from_itself x (passed h)

pub real : (x : Float) → ne x x ≡ false → is_nan x ≡ false
unfolding is_nan
real nan h = absurd (true≢false (sym nan_differs ∙ h))
real (inf s) h = refl
real (fin s m e) h = refl

pub plain_real : (x : Float) → Plain x → is_nan x ≡ false
unfolding is_nan
plain_real nan p = absurd p
plain_real (inf s) p = refl
plain_real (fin s m e) p = refl

pub finite_real : (x : Float) → finite x ≡ true → is_nan x ≡ false
unfolding is_nan
finite_real nan h = sym h
finite_real (inf s) h = refl
finite_real (fin s m e) h = refl

-- ---- what is rounded is no NaN
magnitude_real : (x : Float) → Plain (magnitude x) → is_nan x ≡ false
unfolding magnitude is_nan
magnitude_real nan p = absurd p
magnitude_real (inf s) p = refl
magnitude_real (fin s m e) p = refl

pub round_real : (f : Format) (s : Bool) (a c : ℕ) → is_nan (round f s a c) ≡ false
round_real f s a c = magnitude_real (round f s a c) (subst Plain (sym (round_magnitude f s a c)) (round_plain f a c))

-- ---- nor is a sum or a difference of a number and a finite one
sum_real : (f : Format) (s : Bool) (a : ℕ) (t : Bool) (b c : ℕ) → is_nan (sum f s a t b c) ≡ false
unfolding sum
sum_real f s a t b c = go (beq s t) (ltb a b)
  where
    go : (same less : Bool) → is_nan (cond same (round f s (a + b) c) (cond less (round f t (b - a) c) (round f (s && ltb b a) (a - b) c))) ≡ false
    go true less = round_real f s (a + b) c
    go false true = round_real f t (b - a) c
    go false false = round_real f (s && ltb b a) (a - b) c

pub add_real : (f : Format) (x y : Float) → is_nan x ≡ false → finite y ≡ true → is_nan (add f x y) ≡ false
unfolding add is_nan
add_real f x nan h k = absurd (true≢false (sym k))
add_real f x (inf t) h k = absurd (true≢false (sym k))
add_real f nan (fin t n d) h k = absurd (true≢false h)
add_real f (inf s) (fin t n d) h k = refl
add_real f (fin s m e) (fin t n d) h k = sum_real f s _ t _ _

pub sub_real : (f : Format) (x y : Float) → is_nan x ≡ false → finite y ≡ true → is_nan (sub f x y) ≡ false
unfolding sub neg
sub_real f x nan h k = absurd (true≢false (sym k))
sub_real f x (inf t) h k = absurd (true≢false (sym k))
sub_real f x (fin t n d) h k = add_real f x (fin (not t) n d) h refl

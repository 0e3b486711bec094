-- `math::times_sign` meets its contract: the definition goes by the sign, which only a NaN has not. Assumes nothing.
use mathlib.Core.Path.{◌≡◌, refl, sym, ◌∙◌}
use mathlib.Core.Bool.{true, false, not, true≢false}
use lib.Ieee.{Float, nan, inf, fin, is_nan, neg}
use Rattle.std.specs.Float.{is_sign_negative}
use Rattle.math.specs.Sign.{times_sign}
use Rattle.math.proofs.times_sign.Goals as goal
use Rattle.math.proofs.times_sign.Goals.{then-is_nan-via-then-is_nan, then-is_nan-via-else-is_nan+then-is_sign_positive}

no_sign : (a v : Float) → is_nan a ≡ true → v ≡ times_sign a v
unfolding is_nan times_sign
no_sign nan v e = refl
no_sign (inf s) v e = absurd (true≢false (sym e))
no_sign (fin s m k) v e = absurd (true≢false (sym e))

plus : (a v : Float) → not (is_sign_negative a) ≡ true → v ≡ times_sign a v
unfolding is_sign_negative times_sign
plus nan v e = refl
plus (inf true) v e = absurd (true≢false (sym e))
plus (inf false) v e = refl
plus (fin true m k) v e = absurd (true≢false (sym e))
plus (fin false m k) v e = refl

minus : (a v : Float) → not (is_sign_negative a) ≡ false → neg v ≡ times_sign a v
unfolding is_sign_negative times_sign
minus nan v e = absurd (true≢false e)
minus (inf true) v e = refl
minus (inf false) v e = absurd (true≢false e)
minus (fin true m k) v e = refl
minus (fin false m k) v e = absurd (true≢false e)

pub returns-then-is_nan : goal.returns-then-is_nan
returns-then-is_nan c =
    elim c.then-is_nan.branch [
      | then-is_nan-via-then-is_nan w ↦ no_sign _ _ (sym c.is_nan.ensures.value ∙ w.if-is_nan.true)
      | then-is_nan-via-else-is_nan+then-is_sign_positive w ↦ plus _ _ (sym w.is_sign_positive.ensures ∙ w.if-is_sign_positive.true)
    ]

pub returns : goal.returns
returns c = minus _ _ (sym c.is_sign_positive.ensures ∙ c.if-is_sign_positive.false)

-- `sine::sine` meets its contract: the three calls are the definition's three steps, and the `if` its flip. Assumes nothing.
use mathlib.Core.Path.{◌≡◌, ◌∙◌}
use mathlib.Core.Bool.{cond}
use lib.Ieee.{Float, neg}
use Rattle.math.specs.Sign.{times_sign}
use Rattle.sine.specs.Sine.{reduced, series, sine_at}
use Rattle.sine.specs.declared.Reduced.{Reduced}
use Rattle.math.proofs.Pick.{on_true, on_false}
use Rattle.sine.proofs.sine.Goals as goal
use Rattle.sine.proofs.sine.Goals.{then-t, else-t}

steps : (a v w r : Float) (t : Reduced) → t ≡ reduced a → v ≡ series t.r → w ≡ cond t.flip (neg v) v → r ≡ times_sign a w → r ≡ sine_at a
unfolding sine_at
steps a v w r t e h k l = cc

pub returns : goal.returns
returns c =
    steps _ _ _ _ _ c.reduce-t.ensures c.ten_terms-v.ensures
    (elim c.if-t.branch [ then-t w ↦ w.times_sign-is ∙ on_true _ _ w.if-t.true | else-t w ↦ w.times_sign-is ∙ on_false _ _ w.if-t.false ])
    c.times_sign.ensures

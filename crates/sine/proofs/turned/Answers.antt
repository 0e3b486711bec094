-- `sine::turned` meets its contract: a magnitude below the infinity is one that the halves take, and the rest have no remainder (`proofs/Halving.antt`). Assumes nothing.
use mathlib.Core.Path.{◌≡◌, refl, sym, ap, ◌∙◌, subst}
use mathlib.Core.Bool.{true, false}
use lib.Dec.{T}
use lib.Ieee.{Float, inf, binary64, rem, sub, lt, fits, of_bits, of_int, mul}
use Rattle.math.specs.Numerals.{decimal64, as_f64}
use Rattle.math.specs.Operators.{◌*ᵈ◌}
use Rattle.math.specs.Sign.{magnitude}
use Rattle.math.proofs.Pick.{passed}
use Rattle.sine.specs.Sine.{C}
use Rattle.sine.specs.Halving.{Halves}
use Rattle.sine.proofs.Halving.{turn, starts, endless}
use Rattle.sine.proofs.turned.Goals as goal

turn_is : turn ≡ as_f64 2 *ᵈ C
unfolding C decimal64 of_int mul
turn_is = refl

at_magnitude : (a v : Float) → v ≡ magnitude a → T (fits binary64 v) → lt v (inf false) ≡ true → Halves v turn 1021
at_magnitude a v e h t =
    subst (λ (z : Float). Halves z turn 1021) (sym e)
    (starts a (subst (λ (z : Float). T (fits binary64 z)) e h) (subst (λ (z : Float). lt z (inf false) ≡ true) e t))

pub remainder-requires : goal.remainder-requires
unfolding of_bits of_int mul
remainder-requires c = at_magnitude c.args.a c.abs-v.result c.abs-v.ensures (passed c.abs-v.type_inv) c.if-v.true

pub returns-then-v : goal.returns-then-v
unfolding of_bits of_int mul
returns-then-v c =
    c.remainder.ensures ∙ ap (λ (z : Float). rem binary64 z turn) c.abs-v.ensures ∙ ap (λ (z : Float). rem binary64 (magnitude c.args.a) z) turn_is

pub returns-else-v : goal.returns-else-v
unfolding of_bits
returns-else-v c =
    ap (λ (z : Float). sub binary64 z z) c.abs-v.ensures
    ∙ endless c.args.a (subst (λ (z : Float). lt z (inf false) ≡ false) c.abs-v.ensures c.if-v.false)
    ∙ ap (λ (z : Float). rem binary64 (magnitude c.args.a) z) turn_is

-- `ratio::gcd` meets its contract: each turn is one of Euclid's steps. The invariant: the two numbers have the greatest common divisor of
-- those at entry. The measure is a, which becomes a remainder of itself. Assumes nothing.
use mathlib.Core.Path.{◌≡◌, sym, ap, ◌∙◌}
use native.Mathlib.Omega.{arith}
use Rattle.ratio.specs.Gcd.{gcd_of}
use Rattle.ratio.proofs.Laws.{gcd_step, gcd_zero}
use Rattle.ratio.proofs.gcd.Goals as goal

pub loop-a-preserved : goal.loop-a-preserved
loop-a-preserved c = gcd_step c.loop-a.a c.loop-a.b ∙ c.loop-a.invariant

pub returns : goal.returns
returns c =
    let b = c.loop-a.b in
    let none : c.loop-a.a ≡ 0 = omega arith in
    sym (gcd_zero b) ∙ ap (λ a. gcd_of a b) (sym none) ∙ c.loop-a.invariant

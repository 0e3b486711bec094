-- `ratio::simplify` meets its contract: with den above 0 the greatest common divisor is above 0, so both quotients are there. Assumes nothing.
use native.Mathlib.Omega.{arith}
use Rattle.ratio.specs.Lowest.{lowest}
use Rattle.ratio.proofs.Laws.{gcd_positive}
use Rattle.ratio.proofs.simplify.Goals as goal

pub nonzero_div-result : goal.nonzero_div-result
nonzero_div-result c = omega (arith, gcd_positive c.args.num c.args.den c.requires)

pub nonzero_div-result-2 : goal.nonzero_div-result-2
nonzero_div-result-2 c = omega (arith, gcd_positive c.args.num c.args.den c.requires)

pub returns : goal.returns
unfolding lowest
returns c = rw c.gcd-factor.ensures

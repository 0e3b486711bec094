-- `ratio::gcd` meets its contract: each turn is one of Euclid's steps. The invariant: the two numbers have the greatest common divisor of
-- those at entry. The measure is a, which becomes a remainder of itself. Assumes nothing.
use mathlib.Core.Path.{◌≡◌}
use Rattle.ratio.specs.Gcd.{gcd_of}
use Rattle.ratio.proofs.gcd.Given as goal

abbrev pub invariant-loop-a : goal.invariant-loop-a
invariant-loop-a l = gcd_of l.a l.b ≡ gcd_of l.initial.a l.initial.b

abbrev pub decreases-loop-a : goal.decreases-loop-a
decreases-loop-a l = l.a

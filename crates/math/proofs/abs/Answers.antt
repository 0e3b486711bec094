-- `math::abs` meets its contract: the definition is the library's. Assumes nothing.
use mathlib.Core.Path.{◌≡◌, refl, ◌∙◌}
use mathlib.Core.Bool.{false}
use lib.Ieee.{Float, nan, inf, fin}
use Rattle.std.specs.Float.{float_with_sign}
use Rattle.math.specs.Sign.{magnitude}
use Rattle.math.proofs.abs.Goals as goal

without_sign : (a : Float) → float_with_sign false a ≡ magnitude a
unfolding float_with_sign magnitude
without_sign nan = refl
without_sign (inf s) = refl
without_sign (fin s m e) = refl

pub returns : goal.returns
returns c = c.abs.ensures.value ∙ without_sign c.args.a

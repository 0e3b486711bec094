-- With the sign taken off, a pattern up to the infinity's is no NaN's (`lib.Ieee.Bits`).
use mathlib.Core.Path.{sym, ◌∙◌, subst}
use mathlib.Core.Bool.{Bool, not}
use borrow.Author.Tests.{le-ltb}
use lib.Dec.{T}
use lib.Ieee.{binary64}
use lib.Ieee.Bits.{nan_bits_above}
use Rattle.vectors.proofs.conversions.double_of.Goals as goal

pub float_from_bits-result : goal.float_from_bits-result
float_from_bits-result c =
    subst (λ (t : Bool). T (not t)) (sym (nan_bits_above binary64 c.args.pattern ∙ le-ltb _ _ c.if-pattern-gt9218868437227405312.false)) tt

-- `state::same_bits` meets its contract: floats that are equal are no NaNs, and then the bits decide; others are not the same. Assumes nothing.
use mathlib.Core.Path.{◌≡◌, sym, ◌∙◌, subst}
use mathlib.Core.Bool.{Bool, true}
use lib.Dec.{T}
use Rattle.state.proofs.Bits.{real_first, real_second, unequal, by_bits}
use Rattle.state.proofs.same_bits.Goals as goal

passed : {t : Bool} → t ≡ true → T t
passed e = subst T (sym e) tt

pub float_to_bits-result-then-a-b : goal.float_to_bits-result-then-a-b
float_to_bits-result-then-a-b c = rw (real_second c.args.a c.args.b c.if-a-b.true) tt

pub returns-then-a-b : goal.returns-then-a-b
returns-then-a-b c =
    sym (by_bits _ _ (passed c.well_formed.0.1) (passed c.well_formed.1.0.1) (real_first c.args.a c.args.b c.if-a-b.true))

pub returns-else-a-b : goal.returns-else-a-b
returns-else-a-b c = c.if-a-b.false ∙ sym (unequal c.args.a c.args.b c.if-a-b.false)

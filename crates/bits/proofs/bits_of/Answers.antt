-- `bits::bits_of` meets its contract: only a NaN differs from itself. Assumes nothing.
use mathlib.Core.Path.{◌≡◌, refl, sym, ap, ◌∙◌, subst}
use mathlib.Core.Bool.{false, not, true≢false}
use Prim.Native.Nat.{ℕ}
use lib.Dec.{T}
use lib.Ieee.{Float, nan, inf, fin, binary32, is_nan, ne, to_bits}
use lib.Ieee.Compare.{differs_from_itself, nan_differs}
use Rattle.bits.proofs.bits_of.Goals as goal

of_nan : ◌≡◌ {A = ℕ} 0x7fc0_0000 (to_bits binary32 nan)
unfolding to_bits
of_nan = refl

plain : (x : Float) → ne x x ≡ false → T (not (is_nan x))
unfolding is_nan
plain nan e = absurd (true≢false (sym nan_differs ∙ e))
plain (inf s) e = tt
plain (fin s m x) e = tt

pub returns-then-x : goal.returns-then-x
returns-then-x c = of_nan ∙ sym (ap (to_bits binary32) (differs_from_itself c.args.x (subst T (sym c.if-x.true) tt)))

pub float_to_bits-result : goal.float_to_bits-result
float_to_bits-result c = plain c.args.x c.if-x.false

-- `sixteen::sample_of` meets its contract: the definition is the library's. Assumes nothing.
use Rattle.std.proofs.Common.{◌≡◌, ℕ, suc, ◌-◌, Bool, true, false, cond, pos, negsuc, refl, ap, ◌∙◌, arith, w16, to_z, ltb}
use mir.Val.{sel}
use mir.ValLaws.{to_z-of_z}
use Rattle.sixteen.specs.Sixteen.{sample_of}
use Rattle.sixteen.proofs.sample_of.Goals as goal

read : (w : ℕ) → to_z w16 w ≡ sample_of w
unfolding sample_of
read w = by_half (ltb w 32768)
  where
    by_half : (low : Bool) → sel low (pos w) (negsuc (65536 - suc w)) ≡ cond low (pos w) (negsuc (65535 - w))
    by_half true = refl
    by_half false = ap negsuc (omega arith)

pub returns : goal.returns
returns c =
    to_z-of_z w16 c.cast_signed.result (record { sfits = c.cast_signed.type_inv })
    ∙ c.cast_signed.ensures
    ∙ read c.args.word

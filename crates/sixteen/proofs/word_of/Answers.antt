-- `sixteen::word_of` meets its contract: the definition is the library's. Assumes nothing.
use Rattle.std.proofs.Common.{◌≡◌, ℤ, pos, negsuc, refl, ap, ◌∙◌, arith, w16, of_z}
use mir.ValLaws.{to_z-of_z}
use Rattle.sixteen.specs.Sixteen.{word_of}
use Rattle.sixteen.proofs.word_of.Goals as goal

bits : (z : ℤ) → of_z w16 z ≡ word_of z
unfolding word_of
bits (pos n) = refl
bits (negsuc n) = omega arith

pub returns : goal.returns
returns c =
    let z = c.args.sample in
    c.cast_unsigned.ensures ∙ ap (of_z w16) (to_z-of_z w16 z c.ranges.sample) ∙ bits z

-- `sixteen::from_i16` meets its contract (`proofs/From.antt`). The machine reads the sample back from its bits, which is the sample. Assumes nothing.
use Rattle.std.proofs.Common.{false, ℤ, pos, ap, ◌∙◌, w16}
use lib.Ieee.{binary32, fin, div, of_int, of_bits}
use mir.ValLaws.{to_z-of_z}
use Rattle.sixteen.proofs.From.{div_is}
use Rattle.sixteen.proofs.from_i16.Goals as goal

pub returns : goal.returns
unfolding of_bits
returns c =
    let z = c.args.sample in
    ap (λ (y : ℤ). div binary32 (of_int binary32 y) (fin false 1 (pos 15))) (to_z-of_z w16 z c.ranges.sample) ∙ div_is z c.ranges.sample

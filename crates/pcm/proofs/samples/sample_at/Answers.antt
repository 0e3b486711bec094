-- `pcm::samples::sample_at` meets its contract: the word of two bytes, the sample that it is, and that over 32768. Assumes nothing.
use mathlib.Core.Path.{sym, ap, ◌∙◌}
use mir.Syntax.{w16}
use mir.ValLaws.{to_z-of_z}
use Rattle.sixteen.specs.Sixteen.{sample_of, from_i16}
use Rattle.pcm.proofs.Blocks.{get_or_samples}
use Rattle.pcm.proofs.samples.sample_at.Goals as goal

pub returns : goal.returns
returns c =
    let a = c.args in
    let read = to_z-of_z w16 c.sample_of.result (record { sfits = c.sample_of.type_inv }) in
    c.from_i16.ensures
    ∙ ap from_i16 (read ∙ c.sample_of.ensures ∙ ap sample_of c.word16.ensures)
    ∙ sym (get_or_samples a.bytes.now a.i c.requires)

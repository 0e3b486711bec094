-- `pcm::has_mark` meets its contract (`proofs/Mark.antt`). Assumes nothing.
use mathlib.Core.Path.{◌∙◌}
use Rattle.pcm.proofs.Mark.{marked}
use Rattle.pcm.proofs.has_mark.Goals as goal

pub returns : goal.returns
returns c = c.starts_with.ensures.value ∙ marked c.args.bytes.now

-- `stages::pull` meets its contract: the outputs lie within the output, and all their bytes fit (`proofs/Laws.antt`). Assumes nothing.
use mathlib.Core.Path.{sym}
use lib.Seq.{length-take-le}
use Rattle.stages.proofs.Laws.{written_within, pulls}
use Rattle.stages.proofs.pull.Goals as goal

pub slice_bounds-encode-end : goal.slice_bounds-encode-end
slice_bounds-encode-end c = written_within c.process_float-answer.ensures c.written_of-written.ensures

pub slice_bounds-encode-end-2 : goal.slice_bounds-encode-end-2
slice_bounds-encode-end-2 c = sym (length-take-le _ _ (written_within c.process_float-answer.ensures c.written_of-written.ensures))

pub returns : goal.returns
returns c = pulls c.process_float-answer.ensures c.requires c.written_of-written.ensures c.encode-size.ensures c.state_of.ensures

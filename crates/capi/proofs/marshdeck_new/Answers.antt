-- `marshdeck_new` counts nothing. Assumes nothing.
use Rattle.capi.proofs.Counts.{new_within}
use Rattle.capi.proofs.marshdeck_new.Goals as goal

pub flat_answer-requires : goal.flat_answer-requires
flat_answer-requires c = rw c.new.ensures (new_within _)

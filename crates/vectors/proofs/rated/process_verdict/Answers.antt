-- The house row is sane.
use Rattle.quality.proofs.House.{house_sane}
use Rattle.vectors.proofs.rated.process_verdict.Goals as goal

pub judge_process-requires : goal.judge_process-requires
judge_process-requires c = rw c.house.ensures house_sane

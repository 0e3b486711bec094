-- The house row is sane.
use Rattle.quality.proofs.House.{house_sane}
use Rattle.vectors.proofs.limits.rate_verdict.Goals as goal

pub judge_rate-requires : goal.judge_rate-requires
judge_rate-requires c = rw c.house.ensures house_sane

-- `lanes::Lanes::silent` meets its contract: each sum is 0.0. Assumes nothing.
use Rattle.lanes.proofs.Adding.{sums_silent}
use Rattle.lanes.proofs.Lanes.silent.Goals as goal

pub returns : goal.returns
returns g c = sums_silent g.row.Q

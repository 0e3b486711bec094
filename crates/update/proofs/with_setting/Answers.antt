-- `update::with_setting` meets its contract: a field for a field. Assumes nothing.
use Rattle.update.specs.Updated.{with_setting}
use Rattle.update.proofs.with_setting.Goals as goal

pub returns : goal.returns
unfolding with_setting
returns c = rw c.phase_after.ensures

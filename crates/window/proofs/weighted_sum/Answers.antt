-- `window::weighted_sum` meets its contract: ind + 3 is at most 35, and the sum is the definition's. Assumes nothing.
use Rattle.window.specs.Window.{weighted_sum}
use Rattle.window.proofs.weighted_sum.Goals as goal

pub returns : goal.returns
unfolding weighted_sum
returns c = rw c.requires.0

-- `lanes::Spot::next` meets its contract, after the last row and in another. Assumes nothing.
use native.Mathlib.Omega.{arith}
use Rattle.lanes.proofs.Spots.{spot_wraps, spot_steps}
use Rattle.lanes.proofs.Spot.next.Goals as goal

pub returns-then-row-num : goal.returns-then-row-num
returns-then-row-num c = λ column t p. spot_wraps _ _ p c.if-row-num.true c.requires.2

pub returns-else-row-num : goal.returns-else-row-num
returns-else-row-num c = λ column t p. spot_steps _ _ p (omega (arith, c.if-row-num.false, c.requires))

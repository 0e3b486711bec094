-- `lanes::Lanes::add_tap` meets its contract. The invariant: the first q fours have their products. Assumes nothing.
use native.Mathlib.Omega.{arith}
use Rattle.lanes.proofs.Adding.{added_all}
use Rattle.lanes.proofs.Lanes.add_tap.Goals as goal

pub returns : goal.returns
returns g c = added_all c.loop-q.invariant (omega arith)

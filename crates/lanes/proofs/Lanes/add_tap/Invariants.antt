-- `lanes::Lanes::add_tap` meets its contract. The invariant: the first q fours have their products. Assumes nothing.
use Rattle.lanes.proofs.Adding.{Added}
use Rattle.lanes.proofs.Lanes.add_tap.Given as goal

abbrev pub invariant-loop-q : goal.invariant-loop-q
invariant-loop-q g l = Added l.initial.four-items l.four-items l.k l.x l.i l.q

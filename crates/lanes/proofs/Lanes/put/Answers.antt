-- `lanes::Lanes::put` meets its contract. The invariant: the first q fours are put. Assumes nothing.
use Rattle.lanes.proofs.Strewing.{strewn_more}
use Rattle.lanes.proofs.Lanes.put.Goals as goal

pub loop-q-preserved : goal.loop-q-preserved
loop-q-preserved g c =
    λ f e.
    strewn_more _ _ _ c.requires.2 e c.loop-q-test.true (c.loop-q.invariant f e) c.put_four.ensures

-- `stages::open` meets its contract: what `new` and `source_hz` ensure, one after the other (`proofs/Laws.antt`). Assumes nothing.
use Rattle.stages.proofs.Laws.{opens}
use Rattle.stages.proofs.open.Goals as goal

pub returns : goal.returns
returns c = opens c.new.result c.new.ensures c.state_of-fresh.ensures c.source_hz.ensures c.state_of.ensures

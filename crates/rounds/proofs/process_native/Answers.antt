-- `rounds::process_native` meets its contract: the outputs, what they consume, and the move of the history make a round. Assumes nothing.
use Rattle.rounds.proofs.Running.{round_wrote}
use Rattle.rounds.proofs.process_native.Goals as goal

pub returns : goal.returns
returns c alloc = round_wrote (c.make_outputs-made.ensures alloc) c.min-consumed.ensures c.move_within.ensures

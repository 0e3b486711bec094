-- What is read so far fits the room, and what is left to fill falls with every turn.
use Rattle.std.proofs.Common.{length, ◌-◌, ◌≤◌}
use Rattle.conform_cases.proofs.read_block.Given as goal

abbrev pub invariant-loop-count : goal.invariant-loop-count
invariant-loop-count g l = l.count ≤ length l.room

abbrev pub decreases-loop-count : goal.decreases-loop-count
decreases-loop-count g l = length l.initial.room - l.count

-- What is read so far fits the bytes, and what is left to fill falls with every turn.
use Rattle.std.proofs.Common.{length, ◌-◌, ◌≤◌}
use Rattle.conforming.proofs.files.read_full.Given as goal

abbrev pub invariant-loop-count : goal.invariant-loop-count
invariant-loop-count g l = l.count ≤ length l.bytes

abbrev pub decreases-loop-count : goal.decreases-loop-count
decreases-loop-count g l = length l.initial.bytes - l.count

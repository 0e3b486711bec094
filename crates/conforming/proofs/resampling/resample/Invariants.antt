-- At most one byte is held from turn to turn.
use Rattle.std.proofs.Common.{◌≤◌}
use Rattle.conforming.proofs.resampling.resample.Given as goal

abbrev pub invariant-loop : goal.invariant-loop
invariant-loop g l = l.kept.held ≤ 1

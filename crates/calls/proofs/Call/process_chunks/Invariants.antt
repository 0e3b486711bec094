-- `calls::Call::process_chunks` plays the rounds over the input: the invariant is `Playing`, and what is left of the input and of the room falls.
-- Assumes nothing.
use Prim.Native.Nat.{◌+◌, ◌-◌}
use lib.ListN.{length}
use Rattle.rates.specs.Rated.{rate_with}
use Rattle.rounds.specs.Output.{weigh_of}
use Rattle.rounds.specs.Rounds.{place_of}
use Rattle.calls.proofs.Playing.{Playing}
use Rattle.calls.proofs.Call.process_chunks.Given as goal

abbrev pub invariant-loop-read : goal.invariant-loop-read
invariant-loop-read l = Playing (weigh_of l.self.setting l.self.coefs.now) (rate_with l.self.setting l.self.alloc) l.input l.initial.mem l.initial.out (place_of l.initial.place) l.read l.done (place_of l.place) l.mem l.out

abbrev pub decreases-loop-read : goal.decreases-loop-read
decreases-loop-read l = length l.input - l.read + (length l.initial.out - l.done)

-- `rounds::Player::make_rest` meets its contract. The invariant: what is made goes on what was, for any start of the run. Assumes nothing.
use mathlib.Core.Path.{◌≡◌}
use mathlib.Core.List.{List}
use Prim.Native.Nat.{◌-◌}
use lib.Ieee.{Float}
use Rattle.timeline.specs.Numbers as numbers
use Rattle.timeline.specs.Numbers.{ahead}
use Rattle.rates.specs.Rated.{rate_with}
use Rattle.rounds.specs.Rounds.{place_of}
use Rattle.rounds.specs.Runs.{Ran}
use Rattle.rounds.proofs.Player.make_rest.Given as goal

abbrev pub invariant-loop-i : goal.invariant-loop-i
invariant-loop-i l = (place_of l.place ≡ ahead (rate_with l.self.setting 0) (l.i - l.initial.i) (place_of l.initial.place)) × ((p : numbers.Place) (was : List Float) → Ran l.self.setting l.self.coefs.now l.self.mem.now p l.count l.initial.i (place_of l.initial.place) was l.initial.out → Ran l.self.setting l.self.coefs.now l.self.mem.now p l.count l.i (place_of l.place) was l.out)

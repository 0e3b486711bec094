-- `rounds::Player::fill_classes` meets its contract. The invariant: the classes below `from` are made, and the next stands at the place.
-- Assumes nothing.
use mathlib.Core.Path.{◌≡◌}
use Rattle.timeline.specs.Numbers.{ahead}
use Rattle.rates.specs.Rated.{rate_with}
use Rattle.rounds.specs.Rounds.{place_of}
use Rattle.rounds.proofs.Classes.{Classes}
use Rattle.rounds.proofs.Player.fill_classes.Given as goal

abbrev pub invariant-loop-from : goal.invariant-loop-from
invariant-loop-from l = (place_of l.place ≡ ahead (rate_with l.self.setting 0) l.from (place_of l.initial.place)) × Classes l.self.setting l.self.coefs.now l.self.mem.now (place_of l.initial.place) l.weave.count l.initial.out l.weave.den l.from l.out

-- `rounds::Player::make_fours` meets its contract. The invariant: four outputs are made for each turn. Assumes nothing.
use Prim.Native.Nat.{◌*◌}
use Rattle.rounds.specs.Rounds.{place_of}
use Rattle.rounds.specs.Runs.{Ran}
use Rattle.rounds.proofs.Player.make_fours.Given as goal

abbrev pub invariant-loop-quad : goal.invariant-loop-quad
invariant-loop-quad l = Ran l.self.setting l.self.coefs.now l.self.mem.now (place_of l.initial.place) l.count (4 * l.quad) (place_of l.place) l.initial.out l.out

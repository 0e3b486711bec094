-- `rounds::Player::place_after` meets its contract: the place is told at once, and its numbers are small as the last output's are. Assumes nothing.
use mathlib.Core.Path.{sym}
use Prim.Native.Nat.{◌+◌, ◌*◌}
use native.Mathlib.Nat.{div-le_self}
use native.Mathlib.Omega.{arith}
use Rattle.timeline.proofs.Places.{ahead_is}
use Rattle.rates.specs.Rated.{rate_with}
use Rattle.rounds.specs.Rounds.{place_of}
use Rattle.rounds.proofs.Counts.{span_to}
use Rattle.rounds.proofs.Player.place_after.Goals as goal

pub overflow_mul-parts : goal.overflow_mul-parts
overflow_mul-parts c =
    omega (arith, span_to c.args.count c.args.self.now.playable c.requires)

pub overflow_add-parts : goal.overflow_add-parts
overflow_add-parts c =
    omega (arith, span_to c.args.count c.args.self.now.playable c.requires, c.requires.phase, c.args.self.now.playable.terms.den_to)

pub overflow_add-result : goal.overflow_add-result
overflow_add-result c =
    let a = c.args in
    omega (arith, div-le_self (a.place.phase + a.count * a.self.now.setting.num) a.self.now.setting.den, span_to a.count c.args.self.now.playable c.requires, c.requires.position, c.requires.phase, c.args.self.now.playable.terms.den_to)

pub returns : goal.returns
returns c =
    let a = c.args in
    sym (ahead_is (rate_with a.self.now.setting 0) c.args.self.now.playable.terms.den_from a.count (place_of a.place) c.requires.phase)

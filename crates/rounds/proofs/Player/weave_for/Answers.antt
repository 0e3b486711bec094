-- `rounds::Player::weave_for` meets its contract: the reach is that of the last output's window, and its numbers are small. Assumes nothing.
use Prim.Native.Nat.{◌+◌, ◌-◌, ◌*◌}
use native.Mathlib.Nat.{div-le_self}
use native.Mathlib.Omega.{arith}
use Rattle.rounds.proofs.Counts.{span_before}
use Rattle.rounds.proofs.Player.weave_for.Goals as goal

pub overflow_mul-reach : goal.overflow_mul-reach
overflow_mul-reach c =
    omega (arith, span_before c.args.count c.args.self.now.playable c.requires)

pub overflow_add-reach : goal.overflow_add-reach
overflow_add-reach c =
    omega (arith, span_before c.args.count c.args.self.now.playable c.requires, c.requires.phase, c.args.self.now.playable.terms.den_to)

pub overflow_add-reach-in-Direct : goal.overflow_add-reach-in-Direct
overflow_add-reach-in-Direct c =
    let a = c.args in
    let g = c.args.self.now.playable in
    omega (arith, div-le_self (a.place.phase + (a.count - 1) * a.self.now.setting.num) a.self.now.setting.den, span_before a.count g c.requires, c.requires.phase, g.terms.den_to, g.n_to)

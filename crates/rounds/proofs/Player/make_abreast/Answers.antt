-- `rounds::Player::make_abreast` meets its contract: the fours, and then the three or the few that are left. Assumes nothing.
use mathlib.Core.Path.{◌≡◌}
use Prim.Native.Nat.{ℕ, ◌+◌, ◌-◌, ◌≤◌}
use native.Mathlib.Omega.{arith}
use Rattle.rounds.proofs.Running.{onward}
use Rattle.rounds.proofs.Player.make_abreast.Goals as goal

at_most : {a b : ℕ} → a ≡ b → a ≤ b
at_most e = omega arith

pub make_three-requires : goal.make_three-requires
make_three-requires c =
    let all : c.make_fours-fours.result.written + 3 ≤ c.args.count = at_most c.if-fours-count.true in
    (onward c.make_fours-fours.result.written 3 c.args.self.now.playable c.requires.0 c.make_fours-fours.ensures.place all, all, omega (arith, c.requires.1))

pub make_rest-requires : goal.make_rest-requires
make_rest-requires c =
    let f = c.make_fours-fours.ensures in
    let written = c.make_fours-fours.result.written in
    (onward written (c.args.count - written) c.args.self.now.playable c.requires.0 f.place (omega (arith, f.within)), f.within, omega (arith, c.requires.1))

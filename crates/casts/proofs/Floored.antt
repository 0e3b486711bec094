-- How large a floor can be. Assumes nothing.
use Rattle.std.proofs.Common.{ℕ, ◌*◌, ◌/◌, ◌≤◌, true, false, true≢false, arith}
use native.Mathlib.Nat.{div-le_of_le-mul}
use lib.Ieee.{Float, nan, inf, fin, up, down}
use Rattle.casts.specs.Floor.{floor_of}
use Rattle.math.proofs.Rounded.{AtMost}

-- the floor of a value that is at most n is at most n
pub floor_at_most : (y : Float) (n : ℕ) → AtMost y n 1 → floor_of y ≤ n
unfolding floor_of
floor_at_most nan n h = absurd h
floor_at_most (inf s) n h = absurd h
floor_at_most (fin true m e) n h = absurd (true≢false h.0)
floor_at_most (fin false m e) n h =
    let l = h.1 in
    let q : m * up e / down e ≤ n = div-le_of_le-mul (down e) (omega arith) in
    omega arith

-- `lanes::Lanes::put` meets its contract. The invariant: the first q fours are put. Assumes nothing.
use mathlib.Core.Path.{◌≡◌}
use Prim.Native.Nat.{ℕ, ◌*◌}
use lib.Ieee.{Float}
use Rattle.lanes.specs.Inner.{sums_of, Strewn}
use Rattle.lanes.proofs.Lanes.put.Given as goal

abbrev pub invariant-loop-q : goal.invariant-loop-q
invariant-loop-q g l = (f : ℕ → Float) → l.self.fours ≡ sums_of g.row.Q f → Strewn l.initial.out l.out l.from l.by l.count (4 * l.q) f

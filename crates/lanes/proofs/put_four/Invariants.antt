-- `lanes::put_four` meets its contract. The invariant: the first sums stand in their entries, and the next goes to entry k. Assumes nothing.
use mathlib.Core.Path.{◌≡◌}
use Prim.Native.Nat.{◌+◌, ◌*◌}
use Rattle.kernel.specs.Sums.{at}
use Rattle.lanes.specs.Inner.{Strewn}
use Rattle.lanes.proofs.put_four.Given as goal

abbrev pub invariant-loop-v : goal.invariant-loop-v
invariant-loop-v l = (l.k ≡ l.from + l.v-index * l.by) × Strewn l.initial.out l.out l.from l.by l.count l.v-index (at l.v-items)

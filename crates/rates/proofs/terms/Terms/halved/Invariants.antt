-- `rates::terms::Terms::halved` meets its contract. The invariant: what is left has been halved for each power before the x-th.
-- Assumes nothing.
use mathlib.Core.Path.{◌≡◌}
use Prim.Native.Nat.{◌-◌, ◌≤◌}
use Rattle.rates.specs.Setting.{halved}
use Rattle.rates.proofs.terms.Terms.halved.Given as goal

abbrev pub invariant-loop-x : goal.invariant-loop-x
invariant-loop-x l = (1 ≤ l.x) × (l.x ≤ 5) × (l.left ≡ halved l.self.num l.self.den (l.x - 1) l.self.row.oversample)

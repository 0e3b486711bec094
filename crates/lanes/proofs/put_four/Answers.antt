-- `lanes::put_four` meets its contract. The invariant: the first sums stand in their entries, and the next goes to entry k. Assumes nothing.
use mathlib.Core.Path.{refl}
use native.Mathlib.Nat.{add-mul, one-mul}
use native.Mathlib.Omega.{arith}
use Rattle.lanes.proofs.Strewing.{strewn_store, strewn_full}
use Rattle.lanes.proofs.put_four.Goals as goal

pub returns-then-k-count : goal.returns-then-k-count
returns-then-k-count c = let v = c.loop-v.invariant in strewn_full _ _ _ v.1 (omega arith) (omega (arith, v.0))

pub loop-v-preserved : goal.loop-v-preserved
loop-v-preserved c =
    let v = c.loop-v.invariant in (
      omega (arith, v.0, add-mul c.loop-v.v-index 1 c.args.by, one-mul c.args.by),
      strewn_store _ _ _ v.1 v.0 c.if-k-count.false (omega (arith, v.1.long)) refl c.requires.1,
    )

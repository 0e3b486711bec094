-- `lanes::Steps::fill` meets its contract. The invariant: the outputs so far are made. Assumes nothing.
use mathlib.Core.Path.{◌≡◌, ap}
use Prim.Native.Nat.{ℕ, ◌+◌, ◌*◌, ◌<◌}
use native.Mathlib.Omega.{arith}
use lib.ListN.{length}
use Rattle.lanes.proofs.Stepping.{Stepping, step_first, step_some, step_none}
use Rattle.lanes.proofs.Strewing.{strewn_none, strewn_store, strewn_all}
use Rattle.lanes.proofs.Strands.{strand_at}
use Rattle.lanes.proofs.Steps.fill.Goals as goal
use Rattle.lanes.proofs.Steps.fill.Goals.{In-Some}

-- which output the turn has
turn : (c : In-Some) →
    let it = c.loop-m.m-iterator in let s = c.args.strand in let w = c.args.self.now.weave in
    (c.in-Some.m ≡ it.count) × (c.in-Some.k ≡ s.from + it.count * w.den) × (c.in-Some.k < w.count) × (c.next.new.self.count ≡ it.count + 1) × Stepping s.from w.den w.count c.next.new.self
turn c = step_some c.loop-m.invariant.0 c.in-Some.ensures.steps

-- its number, counted from m
number : (c : In-Some) → c.args.strand.from + c.in-Some.m * c.args.self.now.weave.den ≡ c.in-Some.k
number c =
    let n = turn c in
    omega (arith, n.1, ap (λ (v : ℕ). v * c.args.self.now.weave.den) n.0)

-- and its entry
inside : (c : In-Some) → c.in-Some.k < length c.loop-m.out
inside c = omega (arith, turn c, c.loop-m.invariant.1.long, c.requires.room)

pub loop-m-init : goal.loop-m-init
loop-m-init c =
    let s = c.step_by.ensures in
    let e = c.enumerate-m-items.ensures in
    let first = step_first s.source s.step_minus_one s.first_take e.source e.count c.into_iter-m-iterator.ensures.into_iter_gives in
    (first.1, rw first.0 (strewn_none _ _ _ _ _))

pub along-requires : goal.along-requires
along-requires c =
    let i = (goal.at-along-requires c).In-Some in
    let e = number i in
    omega (arith, strand_at c.requires c.in-Some.m (omega (arith, e, turn i)), e, turn i, c.requires.room)

pub at-requires : goal.at-requires
at-requires c =
    let i = (goal.at-at-requires c).In-Some in
    rw c.along.ensures (strand_at c.requires c.in-Some.m (omega (arith, number i, turn i))).0

pub offset_bounds-out-k : goal.offset_bounds-out-k
offset_bounds-out-k c = omega (arith, inside (goal.at-offset_bounds-out-k c).In-Some)

pub bounds-out-k : goal.bounds-out-k
bounds-out-k c = inside (goal.at-bounds-out-k c).In-Some

pub loop-m-preserved : goal.loop-m-preserved
loop-m-preserved c =
    let n = turn (goal.at-loop-m-preserved c).In-Some in
    let v = c.loop-m.invariant.1 in
    (n.4, rw n.3 (strewn_store _ _ _ v n.1 n.2 (inside (goal.at-loop-m-preserved c).In-Some) (rw (c.along.ensures, n.0) at c.at.ensures) c.requires.den_some))

pub returns : goal.returns
returns c = strewn_all _ _ _ c.loop-m.invariant.1 (step_none c.loop-m.invariant.0 c.in-None.ensures.steps)

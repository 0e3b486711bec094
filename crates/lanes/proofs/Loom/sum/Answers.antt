-- `lanes::Loom::sum` meets its contract. The invariant: the sums are those of the coefficients so far, and the place is that of the next tap. Assumes
-- nothing.
use mathlib.Core.Path.{◌≡◌, refl}
use native.Mathlib.Omega.{arith}
use Rattle.lanes.proofs.Spots.{spot_first, tap_to, tap_next}
use Rattle.lanes.proofs.Adding.{sums_none, sums_more}
use Rattle.lanes.proofs.Loom.sum.Goals as goal

pub loop-k-init : goal.loop-k-init
loop-k-init g c = (spot_first _ _ _ _ c.requires.1.row_low, sums_none c.silent-s.ensures)

pub add_tap-requires : goal.add_tap-requires
add_tap-requires g c =
    let loom = c.args.self.now in
    omega (arith, tap_to c.requires.1 c.loop-k.invariant.0 (omega (arith, loom.taps)), loom.rows)

pub next-at-requires : goal.next-at-requires
next-at-requires g c =
    let loom = c.args.self.now in
    let k = tap_to c.requires.1 c.loop-k.invariant.0 (omega (arith, loom.taps)) in
    (k.0, k.1, refl, omega (arith, loom.rows))

pub loop-k-preserved : goal.loop-k-preserved
loop-k-preserved g c =
    let v = c.loop-k.invariant in
    (tap_next c.args.strand.row c.loop-k.k-index (c.next-at.ensures _ _ v.0), sums_more v.1 v.0.i c.add_tap.ensures)

pub returns : goal.returns
returns g c =
    let e : c.loop-k.k-index ≡ c.args.self.now.weave.n = omega (arith, c.args.self.now.taps) in
    rw (← e) c.loop-k.invariant.1.sums

-- `lanes::fill_class` meets its contract. A direct row is made by lanes, with what is left one by one, another phase one by one. In each arm `is` says
-- which variant the phase is. Assumes nothing.
use mathlib.Core.Path.{◌≡◌}
use Prim.Native.Nat.{◌+◌, ◌*◌, ◌-◌}
use native.Mathlib.Omega.{arith}
use Rattle.lanes.proofs.Strands.{strand_along, strand_fits, class_lanes}
use Rattle.lanes.proofs.fill_class.Goals as goal

pub fill-requires : goal.fill-requires
fill-requires c =
    let made = c.fill-rest.ensures in
    let fits = strand_fits c.requires.class_fits _ c.requires.class_fits.held in
    rw made.out.long (strand_along made.m made.strand made.from_to fits)

pub returns-in-Direct : goal.returns-in-Direct
returns-in-Direct c =
    let n = c.args.weave.n in
    let start = c.in-Direct.row * n in
    let many : start + n - start ≡ n = omega arith in
    class_lanes c.requires.class_fits _ c.in-Direct.row _ c.args.coefs.now c.args.window.now c.in-Direct.is c.requires.woven (rw many at c.fill-rest.ensures) c.fill.ensures

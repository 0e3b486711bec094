-- `lanes::Loom::fill` meets its contract: thirty-twos, and then sixteens. Assumes nothing.
use native.Mathlib.Omega.{arith}
use Rattle.lanes.proofs.Strands.{lanes_along, lanes_on}
use Rattle.lanes.proofs.Loom.fill.Goals as goal

pub fill_by-requires : goal.fill_by-requires
fill_by-requires c =
    let made = c.fill_by-rest.ensures in
    (omega arith, omega arith, omega arith, rw made.out.long (lanes_along made.m made.strand made.from_to c.requires))

pub returns : goal.returns
returns c =
    let loom = c.args.self.now in
    lanes_on loom.coefs.now loom.x.now c.requires.strand.den_some c.fill_by-rest.ensures c.fill_by.ensures

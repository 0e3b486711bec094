-- `lanes::Loom::fill_by` meets its contract. The invariant: the outputs before the strand are made. The measure is how far the strand is from the count.
-- Assumes nothing.
use native.Mathlib.Omega.{arith}
use Rattle.lanes.proofs.Strands.{lanes_along, lanes_on}
use Rattle.lanes.proofs.Loom.fill_by.Goals as goal

pub make-strand-requires : goal.make-strand-requires
make-strand-requires g c =
    let v = c.loop-strand.invariant in
    let p = c.requires in
    (p.0, p.1, rw v.out.long (lanes_along v.m v.strand v.from_to p.3), omega (arith, c.loop-strand-test.true))

pub loop-strand-preserved : goal.loop-strand-preserved
loop-strand-preserved g c =
    let loom = c.args.self.now in
    lanes_on loom.coefs.now loom.x.now c.requires.3.strand.den_some c.loop-strand.invariant c.make-strand.ensures.1

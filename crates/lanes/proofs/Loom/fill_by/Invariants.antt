-- `lanes::Loom::fill_by` meets its contract. The invariant: the outputs before the strand are made. The measure is how far the strand is from the count.
-- Assumes nothing.
use Prim.Native.Nat.{◌-◌}
use Rattle.lanes.specs.Inner.{lane_of, Begun}
use Rattle.lanes.proofs.Loom.fill_by.Given as goal

abbrev pub invariant-loop-strand : goal.invariant-loop-strand
invariant-loop-strand g l = Begun l.initial.out l.out l.self.weave l.initial.strand l.strand (lane_of l.self.weave l.self.coefs.now l.self.x.now l.initial.strand)

abbrev pub decreases-loop-strand : goal.decreases-loop-strand
decreases-loop-strand g l = l.self.weave.count - l.strand.from

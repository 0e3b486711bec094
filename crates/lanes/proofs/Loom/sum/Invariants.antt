-- `lanes::Loom::sum` meets its contract. The invariant: the sums are those of the coefficients so far, and the place is that of the next tap. Assumes
-- nothing.
use Prim.Native.Nat.{◌+◌}
use Rattle.lanes.specs.Inner.{Spotted}
use Rattle.lanes.proofs.Adding.{Summed}
use Rattle.lanes.proofs.Loom.sum.Given as goal

abbrev pub invariant-loop-k : goal.invariant-loop-k
invariant-loop-k g l = Spotted l.num l.stride l.fn.strand.column (l.fn.strand.row + l.k-index) l.at
    × Summed g.row.Q l.num l.stride l.k-index l.self.coefs.now l.self.x.now l.fn.strand.row l.fn.strand.column l.s.fours

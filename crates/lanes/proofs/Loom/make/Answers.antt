-- `lanes::Loom::make` meets its contract: the sums, put to their entries. Assumes nothing.
use Prim.Native.Nat.{◌*◌}
use native.Mathlib.Nat.{mul-le-mul_right}
use native.Mathlib.Omega.{arith}
use Rattle.lanes.proofs.Strands.{column_to, filled_some}
use Rattle.lanes.proofs.Loom.make.Goals as goal

pub along-requires : goal.along-requires
along-requires g c =
    let p = c.requires in
    let w = c.args.self.now.weave in
    omega (arith, column_to p.2 p.3 c.args.self.now.rows, p.2.strand.from_to, p.2.strand.den_to, mul-le-mul_right {m = 4 * g.row.Q} {n = 32} w.den (omega arith))

pub returns : goal.returns
returns g c =
    let p = c.requires in
    filled_some (4 * g.row.Q) (omega arith) (omega arith) p.2.strand p.3 (omega arith) c.along.ensures (c.put.ensures _ c.sum-s.ensures)

-- `history::copy_in` meets its contract. Assumes nothing.
use Rattle.std.proofs.Common.{length, refl, arith}
use lib.Ieee.{nan}
use Rattle.history.proofs.Pasted.{starts, goes_on, ends}
use Rattle.history.proofs.copy_in.Goals as goal

pub loop-i-init : goal.loop-i-init
loop-i-init c = let a = c.args in starts a.mem.now a.to a.samples.now (length a.samples.now)

pub loop-i-preserved : goal.loop-i-preserved
loop-i-preserved c =
    let a = c.args in
    let v = c.loop-i in
    goes_on a.mem.now a.to a.samples.now (length a.samples.now) v.invariant nan refl (omega arith) (omega arith) (omega arith)

pub returns : goal.returns
returns c =
    let a = c.args in
    ends a.mem.now a.to a.samples.now (length a.samples.now) c.loop-i.invariant (omega arith)

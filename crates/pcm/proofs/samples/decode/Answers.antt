-- `pcm::samples::decode` meets its contract (`proofs/Laid.antt`). Assumes nothing.
use native.Mathlib.Omega.{arith}
use lib.Ieee.{nan}
use Rattle.history.proofs.Pasted.{ends}
use Rattle.pcm.specs.Blocks.{samples_of}
use Rattle.pcm.proofs.Blocks.{length_samples}
use Rattle.pcm.proofs.Laid.{one_more, decodes}
use Rattle.pcm.proofs.samples.decode.Goals as goal

pub loop-i-preserved : goal.loop-i-preserved
loop-i-preserved c =
    let a = c.args in
    let e = c.min-n.ensures in
    let q = c.loop-i in
    one_more (samples_of a.bytes.now) a.out.now q.out c.min-n.result q.i nan c.sample_at.result q.invariant (omega arith) (omega (arith, length_samples a.bytes.now)) (omega arith) c.sample_at.ensures

pub returns : goal.returns
returns c =
    let a = c.args in
    let p = c.loop-i.invariant in
    decodes a.bytes.now a.out.now c.loop-i.out c.min-n.result c.min-n.ensures p.same (ends a.out.now 0 (samples_of a.bytes.now) c.min-n.result p (omega arith))

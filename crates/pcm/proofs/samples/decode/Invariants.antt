-- `pcm::samples::decode` meets its contract. The invariant: i samples are pasted over the start of `out`. Assumes nothing.
use Rattle.history.proofs.Pasted.{Pasted}
use Rattle.pcm.specs.Blocks.{samples_of}
use Rattle.pcm.proofs.samples.decode.Given as goal

abbrev pub invariant-loop-i : goal.invariant-loop-i
invariant-loop-i l = Pasted l.initial.out 0 (samples_of l.bytes) l.n l.out l.i

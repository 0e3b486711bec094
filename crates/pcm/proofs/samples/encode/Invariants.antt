-- `pcm::samples::encode` meets its contract. The invariant: the bytes of i samples are pasted over the start of `out`. Assumes nothing.
use Prim.Native.Nat.{◌*◌}
use Rattle.history.proofs.Pasted.{Pasted}
use Rattle.pcm.specs.Blocks.{bytes_of}
use Rattle.pcm.proofs.samples.encode.Given as goal

abbrev pub invariant-loop-i : goal.invariant-loop-i
invariant-loop-i l = Pasted l.initial.out 0 (bytes_of l.xs) (2 * l.count) l.out (2 * l.i)

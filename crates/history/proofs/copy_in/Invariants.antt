-- `history::copy_in` meets its contract. The invariant: i samples are pasted. Assumes nothing.
use Rattle.std.proofs.Common.{length}
use Rattle.history.proofs.Pasted.{Pasted}
use Rattle.history.proofs.copy_in.Given as goal

abbrev pub invariant-loop-i : goal.invariant-loop-i
invariant-loop-i l = Pasted l.initial.mem l.to l.samples (length l.samples) l.mem l.i

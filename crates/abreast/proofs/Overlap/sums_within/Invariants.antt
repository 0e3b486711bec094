-- `abreast::Overlap::sums_within` meets its contract. The invariant: each output has the history's samples up to the j-th that the windows share, and
-- sample j's coefficients start at the index. Assumes nothing.
use Rattle.std.proofs.Common.{◌≡◌, ◌+◌, ◌*◌, slice_index}
use Rattle.abreast.specs.Interpolated.{sums_at}
use Rattle.abreast.proofs.Overlap.sums_within.Given as goal

abbrev pub invariant-loop-j : goal.invariant-loop-j
invariant-loop-j l = (l.idx ≡ l.j * l.self.oversample) × (l.all ≡ sums_at l.self (slice_index l.self.windows.starts 3 + l.j))

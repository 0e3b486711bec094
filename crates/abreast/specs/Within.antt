-- Four windows that start at `starts` of one history, and what four interpolated outputs read of the table. Assumes nothing.
use Rattle.std.specs.Prelude.{ℕ, ◌+◌, ◌≤◌, List, slice_index}
use Rattle.kernel.specs.Interpolated.{TapsWithin}

-- the four windows of n samples lie within `size` samples, and none starts before the first or after the last
pub record WindowsWithin (starts : List ℕ) (n size : ℕ) : Type 0 where
  pub a_b : slice_index starts 0 ≤ slice_index starts 1
  pub a_c : slice_index starts 0 ≤ slice_index starts 2
  pub b_d : slice_index starts 1 ≤ slice_index starts 3
  pub c_d : slice_index starts 2 ≤ slice_index starts 3
  pub last : slice_index starts 3 + n ≤ size

-- the table holds what n samples meet at each offset
pub record FourTapsWithin (n oversample : ℕ) (offsets : List ℕ) (size : ℕ) : Type 0 where
  pub a : TapsWithin n oversample (slice_index offsets 0) size
  pub b : TapsWithin n oversample (slice_index offsets 1) size
  pub c : TapsWithin n oversample (slice_index offsets 2) size
  pub d : TapsWithin n oversample (slice_index offsets 3) size

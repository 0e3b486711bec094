-- A window laid out by position modulo num, so that the samples which one coefficient meets, in outputs num samples apart, are neighbours.
-- Assumes nothing.
use Rattle.std.specs.Prelude.{◌≡◌, List, ℕ, ◌+◌, ◌*◌, ◌^◌, ◌≤◌, ◌<◌, Float}
use Rattle.kernel.specs.Sums.{at}

-- x holds the first `reach` samples of the window: sample q * num + r stands in row r, at column q; a row has `stride` entries
pub record Woven (x window : List Float) (num stride reach : ℕ) : Type 0 where
  pub each : (r q : ℕ) → r < num → q * num + r < reach → at x (r * stride + q) ≡ at window (q * num + r)

-- what laying out asks: num rows lie within the `size` entries of the layout, and hold all samples, which the window of `window` samples has
pub record LayoutFits (num stride reach size window : ℕ) : Type 0 where
  pub num_to : num ≤ 2 ^ 32
  pub rows : num * stride ≤ size
  pub columns : reach ≤ stride * num
  pub held : reach ≤ window

-- a stride that serves: the layout fits 2,048 entries with 32 to spare, and holds all samples
pub record Strided (num reach stride : ℕ) : Type 0 where
  pub some : 0 < stride
  pub rows : num * stride + 32 ≤ 2048
  pub columns : reach ≤ stride * num
  pub num_some : 0 < num

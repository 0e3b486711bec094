-- A class of outputs: those `den` apart. They have one phase, and their windows start `num` samples apart. Assumes nothing.
use Rattle.std.specs.Prelude.{◌≡◌, List, ℕ, ◌+◌, ◌*◌, ◌^◌, ◌≤◌, ◌<◌, length, Float}
use Rattle.kernel.specs.Sums.{at}
use Rattle.lanes.specs.declared.Weave.{Weave}

-- what filling asks, over a layout, a window and an output of `size`, `window` and `out` entries. The first output is `from`, its window starts at
-- `shift`. The layout has 32 entries more than its rows: sums that no output takes read those
pub record ClassFits (w : Weave) (shift from size window out : ℕ) : Type 0 where
  pub num_some : 0 < w.num
  pub den_to : w.den ≤ 2 ^ 32
  pub from_low : from < w.den
  pub rows : w.num * w.stride + 32 ≤ size
  pub columns : w.reach ≤ w.stride * w.num
  pub held : w.reach ≤ window
  pub within : (m : ℕ) → from + m * w.den < w.count → shift + m * w.num + w.n ≤ w.reach
  pub room : w.count ≤ out

-- entries from, from + den, from + 2 * den, .. below count hold f 0, f 1, f 2, ..; all others are as before
pub record Classed (before after : List Float) (from den count : ℕ) (f : ℕ → Float) : Type 0 where
  pub long : length after ≡ length before
  pub these : (m : ℕ) → from + m * den < count → at after (from + m * den) ≡ f m
  pub others : (k : ℕ) → ((m : ℕ) → k ≡ from + m * den → count ≤ k) → at after k ≡ at before k

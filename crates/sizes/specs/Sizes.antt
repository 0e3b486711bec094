-- Document 01, "Sizes": which rates are taken, and how long the lent slices are at most.
-- Assumes nothing.
use Rattle.std.specs.Prelude.{ℕ, ◌+◌, ◌-◌, ◌*◌, ◌≤◌, Bool, ◌&&◌, leb}

-- a rate from 4,000 to 192,000 Hz
pub record InLimits (rate : ℕ) : Type 0 where
  pub low : 4000 ≤ rate
  pub high : rate ≤ 192000

-- the same as a test
unfoldable pub in_limits : ℕ → Bool
in_limits rate = leb 4000 rate && leb rate 192000

-- source over target in lowest terms, for two rates in limits: each term from 1 to 192,000, and a ratio of at most 48
pub record RatioInLimits (num den : ℕ) : Type 0 where
  pub num_from : 1 ≤ num
  pub num_to : num ≤ 192000
  pub den_from : 1 ≤ den
  pub den_to : den ≤ 192000
  pub ratio : num ≤ 48 * den

-- buffer_size: how many entries a history has beyond the n - 1 that a filter of length n keeps
abbrev pub buffer_entries : ℕ
buffer_entries = 160

-- how long a history a filter of length n needs: n + 159, but 160 at n = 0, where there is no filter
abbrev pub history_needed : ℕ → ℕ
history_needed n = n - 1 + buffer_entries

-- the longest history that any two rates in limits need
abbrev pub max_history : ℕ
max_history = 7839

-- the most coefficients that any two rates in limits need
abbrev pub max_coefficients : ℕ
max_coefficients = 7688

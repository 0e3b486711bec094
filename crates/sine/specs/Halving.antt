-- What the remainder by halves asks of its numbers. Only an inner function's contract cites it. Assumes nothing.
use Rattle.std.specs.Prelude.{◌≡◌, ℕ, suc, ◌+◌, ◌*◌, ◌^◌, ◌<◌, false}
use Rattle.std.specs.Float.Ieee.{Float, Format, binary64, prec, emax, low, round}

-- a count that a format holds: q * 2 ^ j, with no more digits than it keeps, below its largest power
pub record Grid (f : Format) (n : ℕ) : Type 0 where
  pub q : ℕ
  pub j : ℕ
  pub is : n ≡ q * 2 ^ j
  pub few : q < 2 ^ prec f
  pub fine : n < 2 ^ (low f + suc (emax f))

-- n of the format's smallest values
abbrev pub at : Format → ℕ → Float
at f n = round f false n (2 ^ low f)

-- x and y are counts on the grid of an f64, y above 0; y doubled k times is on it too, and doubled once more it is above x
pub record Halves (x y : Float) (k : ℕ) : Type 0 where
  pub n : ℕ
  pub m : ℕ
  pub grid_n : Grid binary64 n
  pub grid_m : Grid binary64 m
  pub x_is : x ≡ at binary64 n
  pub y_is : y ≡ at binary64 m
  pub some : 0 < m
  pub room : m * 2 ^ k < 2 ^ (low binary64 + suc (emax binary64))
  pub past : n < m * 2 ^ suc k

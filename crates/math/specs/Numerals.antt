-- Whole and decimal numbers as floats: the value of the format that is nearest to them, as Rust reads a literal or a cast.
-- Assumes nothing.
use Rattle.std.specs.Prelude.{ℕ, ◌^◌, false, pos, Float}
use Rattle.std.specs.Float.{fin, binary32, binary64}
use Rattle.std.specs.Float.Ieee.{round, of_int}

-- 0.0 (of either format; its sign is plus)
abbrev pub nought : Float
nought = fin false 0 (pos 0)

-- a whole number as an f32, and as an f64
abbrev pub as_f32 : ℕ → Float
as_f32 n = of_int binary32 (pos n)

abbrev pub as_f64 : ℕ → Float
as_f64 n = of_int binary64 (pos n)

-- n / 10 ^ places as an f32, and as an f64: `decimal64 8 99537781` is 0.99537781
unfoldable pub decimal32 : ℕ → ℕ → Float
unfolding round
decimal32 places n = round binary32 false n (10 ^ places)

unfoldable pub decimal64 : ℕ → ℕ → Float
unfolding round
decimal64 places n = round binary64 false n (10 ^ places)

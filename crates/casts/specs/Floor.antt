-- Document 01, "Coefficients": the floor of an f32, by which the window is entered. It is the Rust's `y.floor() as usize`. Assumes nothing.
use Rattle.std.specs.Prelude.{ℕ, ◌-◌, ◌*◌, ◌/◌, ◌^◌, min, cond, Float}
use Rattle.std.specs.Float.{nan, inf, fin}
use Rattle.std.specs.Float.Ieee.{up, down}

-- The largest whole number that is not above y, which is m * up e / down e; 0 where y is negative or a NaN, and at most 2 ^ 64 - 1.
unfoldable pub floor_of : Float → ℕ
floor_of nan = 0
floor_of (inf s) = cond s 0 (2 ^ 64 - 1)
floor_of (fin s m e) = cond s 0 (min (m * up e / down e) (2 ^ 64 - 1))

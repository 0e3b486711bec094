-- Document 01, "Forms that can't stay": from f64 to f32, as Rust's `as f32`. Assumes nothing.
use Rattle.std.specs.Prelude.{◌*◌, Float}
use Rattle.std.specs.Float.{nan, inf, fin, binary32}
use Rattle.std.specs.Float.Ieee.{up, down, round}

-- A finite x, m * 2 ^ e, is rounded once to the nearest f32, a tie to the even one, and from 2 ^ 128 less half a step on to an infinity. Zeros keep their sign.
unfoldable pub narrowed : Float → Float
narrowed nan = nan
narrowed (inf s) = inf s
narrowed (fin s m e) = round binary32 s (m * up e) (down e)

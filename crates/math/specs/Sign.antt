-- The sign of a float, which a zero has too. Assumes nothing.
use Rattle.std.specs.Prelude.{false, cond, Float}
use Rattle.std.specs.Float.{nan, inf, fin}
use Rattle.std.specs.Float.Ieee.{neg}

-- |a|
unfoldable pub magnitude : Float → Float
magnitude nan = nan
magnitude (inf s) = inf false
magnitude (fin s m e) = fin false m e

-- v times the sign of a, which a zero has too and a NaN has not
unfoldable pub times_sign : Float → Float → Float
times_sign nan v = v
times_sign (inf s) v = cond s (neg v) v
times_sign (fin s m e) v = cond s (neg v) v

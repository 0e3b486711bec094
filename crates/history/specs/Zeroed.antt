-- Zeros in a history. Assumes nothing.
use Rattle.std.specs.Prelude.{ℕ, List, replicate, Float}
use Rattle.std.proofs.Math.Seq.{paste}
use Rattle.math.specs.Numerals.{nought}

-- h, where the count entries from `at` on are 0.0
abbrev pub zeroed : List Float → ℕ → ℕ → List Float
zeroed h at count = paste h at (replicate count nought) count

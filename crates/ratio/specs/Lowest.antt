-- A ratio in lowest terms.
-- Assumes nothing.
use Rattle.std.specs.Prelude.{ℕ, ◌/◌}
use Rattle.ratio.specs.Gcd.{gcd_of}
use Rattle.ratio.specs.declared.Ratio.{Ratio}

-- num over den, both divided by their greatest common divisor
unfoldable pub lowest : ℕ → ℕ → Ratio
lowest num den = let g = gcd_of num den in record { num = num / g; den = den / g }

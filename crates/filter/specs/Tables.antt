-- Document 01, "Coefficients": the coordinates, each operation in f32, and the two tables. Assumes nothing.
use Rattle.std.specs.Prelude.{ℕ, zero, suc, ◌+◌, ◌*◌, ◌/◌, ◌%◌, List, [], ◌∷◌, ◌++◌, pos, ◌-ℤ◌, Float}
use Rattle.std.specs.Float.{binary32}
use Rattle.std.specs.Float.Ieee.{of_int}
use Rattle.math.specs.Operators.{◌+ᶠ◌, ◌-ᶠ◌, ◌/ᶠ◌}
use Rattle.math.specs.Numerals.{as_f32}
use Rattle.sinc.specs.Sinc.{sinc_at}

-- x at row i, column j of the direct table: (j - n/2 + 1) - i/den
unfoldable pub direct_x : ℕ → ℕ → ℕ → ℕ → Float
direct_x n den i j = (as_f32 j -ᶠ as_f32 n /ᶠ as_f32 2 +ᶠ as_f32 1) -ᶠ as_f32 i /ᶠ as_f32 den

-- x at entry i of the interpolated table: (i - 4)/oversample - n/2, where the whole number i - 4 may be negative
unfoldable pub interpolated_x : ℕ → ℕ → ℕ → Float
interpolated_x n oversample i = of_int binary32 (pos i -ℤ pos 4) /ᶠ as_f32 oversample -ᶠ as_f32 n /ᶠ as_f32 2

-- entry k of the direct table: its rows have n entries each
unfoldable pub direct_entry : Float → ℕ → ℕ → ℕ → Float
direct_entry cutoff n den k = sinc_at cutoff (direct_x n den (k / n) (k % n)) n

-- entry i of the interpolated table
unfoldable pub interpolated_entry : Float → ℕ → ℕ → ℕ → Float
interpolated_entry cutoff n oversample i = sinc_at cutoff (interpolated_x n oversample i) n

-- f 0, f 1, .., f (count - 1)
unfoldable pub entries : (ℕ → Float) → ℕ → List Float
entries f zero = []
entries f (suc k) = entries f k ++ (f k ∷ [])

-- den rows of n entries
unfoldable pub direct_table : Float → ℕ → ℕ → List Float
direct_table cutoff n den = entries (direct_entry cutoff n den) (n * den)

-- n * oversample entries, with four more before and four after them
unfoldable pub interpolated_table : Float → ℕ → ℕ → List Float
interpolated_table cutoff n oversample = entries (interpolated_entry cutoff n oversample) (n * oversample + 8)

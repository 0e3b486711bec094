-- One direct row over four windows of one history. Assumes nothing.
use Rattle.std.specs.Prelude.{ℕ, ◌+◌, List, [], ◌∷◌, drop, slice_index, Float}
use Rattle.math.specs.Operators.{◌+ᶠ◌, ◌*ᶠ◌}
use Rattle.kernel.specs.Sums.{at, direct_sum}
use Rattle.abreast.specs.declared.Windows.{Windows}

-- window k, and what lies behind it
abbrev pub window_of : Windows → ℕ → List Float
window_of w k = drop (slice_index w.starts k) w.history.now

-- the four outputs, of the first n taps
abbrev pub four_rows : Windows → ℕ → List Float → List Float
four_rows w n row =
    direct_sum n row (window_of w 0)
    ∷ direct_sum n row (window_of w 1)
    ∷ direct_sum n row (window_of w 2)
    ∷ direct_sum n row (window_of w 3)
    ∷ []

-- sum k of s with the product of tap j added to it
abbrev pub tap_added : Windows → List Float → List Float → ℕ → ℕ → Float
tap_added w s row j k = at s k +ᶠ at row j *ᶠ at w.history.now (slice_index w.starts k + j)

-- the four sums with them
abbrev pub four_taps : Windows → List Float → List Float → ℕ → List Float
four_taps w s row j = tap_added w s row j 0 ∷ tap_added w s row j 1 ∷ tap_added w s row j 2 ∷ tap_added w s row j 3 ∷ []

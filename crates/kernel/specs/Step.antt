-- Document 01, "One output, one call": one output of either kind of phase. Assumes nothing.
use Rattle.std.specs.Prelude.{ℕ, ◌+◌, ◌*◌, ◌≤◌, List, drop, Float}
use Rattle.kernel.specs.Sums.{direct_sum}
use Rattle.kernel.specs.Interpolated.{TapsWithin, interpolated}
use Rattle.kernel.specs.declared.Phase.{Phase}
use Rattle.kernel.specs.declared.Phase.TheVariants.{Direct, Interpolated}

-- the output of a phase from the coefficients and the window; a direct row starts at row * n of the coefficients
unfoldable pub step_of : Phase → ℕ → ℕ → List Float → List Float → Float
step_of (Direct row) n oversample coefs window = direct_sum n (drop (row * n) coefs) window
step_of (Interpolated offset f) n oversample coefs window = interpolated oversample offset f n coefs window

-- a table of `size` coefficients holds all that the phase reads
abbrev pub Reaches : Phase → ℕ → ℕ → ℕ → Type 0
Reaches (Direct row) n oversample size = row * n + n ≤ size
Reaches (Interpolated offset f) n oversample size = TapsWithin n oversample offset size

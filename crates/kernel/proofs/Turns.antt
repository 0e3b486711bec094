-- What one turn of a summing loop adds. Assumes nothing.
use Rattle.std.proofs.Common.{◌≡◌, ℕ, ◌+◌, ◌*◌, ◌<◌, ◌≤◌, List, sym, ap, mul-le-mul_right, add-mul, one-mul, add-one, arith}
use lib.Ieee.{Float}
use Rattle.math.specs.Operators.{◌+ᶠ◌}
use Rattle.kernel.specs.Sums.{at, sum_to}
use Rattle.kernel.specs.Interpolated.{tap, spread, four_sums}

-- one more product of a direct row
pub sum_turn : (f : ℕ → Float) (j : ℕ) {s : Float} → s ≡ sum_to j f → s +ᶠ f j ≡ sum_to (j + 1) f
unfolding sum_to
sum_turn f j e = rw (add-one, e)

-- one more sample of the four sums
pub four_turn : (oversample offset j : ℕ) (coefs window : List Float) {s r : List Float} → s ≡ four_sums oversample offset j coefs window
    → r ≡ spread s (at window j) coefs (tap oversample offset j) → r ≡ four_sums oversample offset (j + 1) coefs window
unfolding four_sums
four_turn oversample offset j coefs window e g = rw (g, e) (ap (λ (k : ℕ). four_sums oversample offset k coefs window) (sym (add-one j)))

-- the next sample's first coefficient lies oversample on
pub tap_turn : (oversample offset j : ℕ) {i : ℕ} → offset ≤ oversample → i ≡ tap oversample offset j
    → i + oversample ≡ tap oversample offset (j + 1)
tap_turn oversample offset j l h = omega (arith, add-mul (j + 1) 1 oversample, one-mul oversample, add-mul j 1 oversample)

-- the entries of sample j, of n samples with oversample entries each, end within them
pub entries_within : (oversample : ℕ) {j n : ℕ} → j < n → (oversample ≤ (j + 1) * oversample) × ((j + 1) * oversample ≤ n * oversample)
entries_within oversample {j} {n} h = (omega (arith, add-mul j 1 oversample, one-mul oversample), mul-le-mul_right oversample (omega arith))

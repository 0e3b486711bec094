-- `sinc_at` by its two tests on a, the magnitude of x. Assumes nothing.
use Rattle.std.proofs.Common.{◌≡◌, ℕ, true, false, ◌∙◌}
use lib.Ieee.{Float, lt}
use Rattle.math.specs.Numerals.{nought, as_f64, decimal64}
use Rattle.math.specs.Operators.{◌*ᵈ◌}
use Rattle.math.specs.Sign.{magnitude}
use Rattle.math.proofs.Pick.{on_true, on_false}
use Rattle.sinc.specs.Sinc.{windowed_sinc, sinc_at}

module _ (cutoff x : Float) (n : ℕ) (a : Float) (is : a ≡ magnitude x) where
  pub at_near : lt a (decimal64 6 1) ≡ true → cutoff ≡ sinc_at cutoff x n
  unfolding sinc_at
  at_near e = on_true cutoff _ (rw is at e)

  pub at_far : lt a (decimal64 6 1) ≡ false → lt (decimal64 1 5 *ᵈ as_f64 n) a ≡ true → nought ≡ sinc_at cutoff x n
  unfolding sinc_at
  at_far e f = on_true nought (windowed_sinc cutoff x n) (rw is at f) ∙ on_false cutoff _ (rw is at e)

  pub between : lt a (decimal64 6 1) ≡ false → lt (decimal64 1 5 *ᵈ as_f64 n) a ≡ false → windowed_sinc cutoff x n ≡ sinc_at cutoff x n
  unfolding sinc_at
  between e f = on_false nought (windowed_sinc cutoff x n) (rw is at f) ∙ on_false cutoff _ (rw is at e)

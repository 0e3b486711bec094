-- `rates::Setting::at_ratio` meets its contract: each callee gives its part of the definition, within the limits. Assumes nothing.
use Prim.Native.Nat.{ℕ, ◌≤◌}
use native.Mathlib.Omega.{arith}
use Rattle.sizes.specs.Sizes.{RatioInLimits}
use Rattle.quality.specs.Quality.{Sane}
use Rattle.rates.specs.Setting.{length_of, oversample_of, setting_at}
use Rattle.quality.specs.declared.QualityMapping.{QualityMapping}
use Rattle.rates.proofs.Limits.{at_ratio_lem}
use Rattle.rates.proofs.Setting.at_ratio.Goals as goal

bounded : {row : QualityMapping} {num den : ℕ} → Sane row × RatioInLimits num den
    → (length_of row num den ≤ 7680) × (oversample_of row num den ≤ 16)
unfolding setting_at
bounded {row} {num} {den} p =
    let s = p.0 in
    let l = at_ratio_lem row s num den p.1 in
    (omega arith, l.oversample_to)

pub kernel_for-kernel-requires : goal.kernel_for-kernel-requires
kernel_for-kernel-requires c =
    omega (arith, bounded c.requires, c.oversampling-oversample.ensures, c.filter_length-n.ensures)

pub coefficients-requires : goal.coefficients-requires
coefficients-requires c =
    omega (arith, bounded c.requires, c.oversampling-oversample.ensures, c.filter_length-n.ensures)

pub returns : goal.returns
unfolding setting_at
returns c =
    rw (
      c.cutoff.ensures,
      c.coefficients.ensures,
      c.kernel_for-kernel.ensures,
      c.oversampling-oversample.ensures,
      c.filter_length-n.ensures,
    )

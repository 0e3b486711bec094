-- Document 01, "Sizes" and "Setting a rate": what any sane row and any two rates in limits give. `proofs/Limits.antt` proves it.
-- Assumes nothing.
use Rattle.std.specs.Prelude.{◌≡◌, false, cond, ◌+◌, ◌*◌, ◌/◌, ◌%◌, ◌≤◌, ◌<◌, leb}
use Rattle.std.specs.Float.Ieee.{is_nan}
use Rattle.sizes.specs.Sizes.{RatioInLimits, history_needed, max_history, max_coefficients}
use Rattle.quality.specs.declared.QualityMapping.{QualityMapping}
use Rattle.rates.specs.declared.Kernel.TheVariants.{Direct, Interpolated}
use Rattle.rates.specs.declared.Setting.{Setting}

-- what holds of the setting s that a sane row gives for two rates in limits
pub record Limits (row : QualityMapping) (s : Setting) : Type 0 where
  pub terms : RatioInLimits s.num s.den
  pub int_advance_to : s.int_advance ≤ 48
  pub frac_advance_to : s.frac_advance < s.den
  pub n_by_8 : s.filt_len % 8 ≡ 0
  pub n_from : row.base_length ≤ s.filt_len
  pub n_to : s.filt_len ≤ 48 * row.base_length
  pub history_to : history_needed s.filt_len ≤ max_history
  pub oversample_from : 1 ≤ s.oversample
  pub oversample_to : s.oversample ≤ 16
  pub table_to : s.filt_len * s.oversample ≤ 48 * row.base_length
  pub row_coefs_to : s.coefs ≤ 48 * row.base_length + 8
  pub coefs_to : s.coefs ≤ max_coefficients
  pub kernel_is : s.kernel ≡ cond (leb s.den s.oversample) Direct Interpolated
  pub cutoff_real : is_nan s.cutoff ≡ false
  -- an output moves the position by at most n/2
  pub ratio_within : s.num ≤ s.den * (s.filt_len / 2)

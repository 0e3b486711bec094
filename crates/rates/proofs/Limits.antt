-- Any sane row and any two rates in limits give numbers within the limits. Assumes nothing.
use Prim.Native.Nat.{ℕ, ◌*◌, ◌≤◌, ◌<◌}
use native.Mathlib.Nat.{mul-le-mul_left, mul-le-mul_right, mod-lt, div-le_of_le-mul}
use native.Mathlib.Omega.{arith}
use Rattle.ratio.specs.Lowest.{lowest}
use Rattle.ratio.proofs.Laws.{num_bounds, den_bounds, same_ratio}
use Rattle.sizes.specs.Sizes.{InLimits, RatioInLimits, history_needed}
use Rattle.quality.specs.Quality.{Sane}
use Rattle.rates.specs.Setting.{length_of, oversample_of, setting_at, setting_of}
use Rattle.rates.specs.Limits.{Limits}
use Rattle.rates.specs.Rated.{rate_with}
use Rattle.quality.specs.declared.QualityMapping.{QualityMapping}
use Rattle.rates.specs.declared.Setting.{Setting}
use Rattle.timeline.specs.Numbers.{Fit}
use Rattle.rates.proofs.Numbers.{length_by_8, length_from, length_to, ratio_to, oversample_from, oversample_to, table_to, kernel_is, coefficients_to}
use Rattle.rates.proofs.Real.{cutoff_real}

-- ---- the terms of two rates in limits
pub ratio_in_limits : (source target : ℕ) → InLimits source → InLimits target
    → RatioInLimits (lowest source target).num (lowest source target).den
ratio_in_limits source target hs ht =
    let num = (lowest source target).num in
    let den = (lowest source target).den in
    let n = num_bounds source target (omega arith) in
    let d = den_bounds source target (omega arith) in
    let low : num * 4000 ≤ num * target = mul-le-mul_left num ht.low in
    let high : source * den ≤ 192000 * den = mul-le-mul_right den hs.high in
    record {
      num_from = n.0;
      num_to = omega arith;
      den_from = d.0;
      den_to = omega arith;
      ratio = omega (arith, same_ratio source target);
    }

-- ---- what they give
pub at_ratio_lem : (row : QualityMapping) → Sane row → (num den : ℕ) → RatioInLimits num den
    → Limits row (setting_at row num den)
unfolding setting_at
at_ratio_lem row sane num den r =
    let n = length_of row num den in
    let oversample = oversample_of row num den in
    let from : row.base_length ≤ n = length_from row num den r.den_from in
    let to : n ≤ 48 * row.base_length = length_to row num den sane 48 (omega arith) r.ratio in
    let table : n * oversample ≤ 48 * row.base_length = table_to row num den sane r.den_from r.ratio in
    let long : 8 < n = omega arith in
    let small : n * oversample ≤ 536870911 = omega arith in
    let coefs = coefficients_to n oversample den long r.den_from small in
    record {
      terms = r;
      int_advance_to = div-le_of_le-mul den (omega arith);
      frac_advance_to = mod-lt num r.den_from;
      n_by_8 = length_by_8 row num den sane;
      n_from = from;
      n_to = to;
      history_to = omega arith;
      oversample_from = oversample_from row num den sane;
      oversample_to = oversample_to row num den sane;
      table_to = table;
      row_coefs_to = omega arith;
      coefs_to = omega arith;
      kernel_is = kernel_is n oversample den long r.den_from small;
      cutoff_real = cutoff_real row sane num den r;
      ratio_within = ratio_to row num den sane r.den_from;
    }

pub limits : (row : QualityMapping) → Sane row → (source target : ℕ) → InLimits source → InLimits target
    → Limits row (setting_of row source target)
unfolding setting_of
limits row sane source target hs ht =
    at_ratio_lem row sane (lowest source target).num (lowest source target).den (ratio_in_limits source target hs ht)

-- ---- as a rate of `timeline`, with a history of the length needed or longer
pub rate_fits : {row : QualityMapping} {s : Setting} (alloc : ℕ) → Sane row → Limits row s
    → history_needed s.filt_len ≤ alloc → Fit (rate_with s alloc)
rate_fits alloc sane l h = record { num = l.terms.num_from; den = l.terms.den_from; n = omega arith; alloc = omega arith }

-- `recording::outputs_of` meets its contract: the terms are in limits, so nothing overflows. Assumes nothing.
use mathlib.Core.Path.{◌≡◌}
use Prim.Native.Nat.{ℕ, ◌*◌, ◌≤◌}
use native.Mathlib.Nat.{mul-le-mul}
use native.Mathlib.Omega.{arith}
use Rattle.ratio.specs.Lowest.{lowest}
use Rattle.ratio.specs.declared.Ratio.{Ratio}
use Rattle.sizes.specs.Sizes.{InLimits, RatioInLimits}
use Rattle.rates.proofs.Limits.{ratio_in_limits}
use Rattle.recording.specs.Totals.{max_samples}
use Rattle.recording.proofs.outputs_of.Goals as goal

-- a ratio and a count whose product and sum fit
record Small (samples : ℕ) (r : Ratio) : Type 0 where
  num_from : 1 ≤ r.num
  num_to : r.num ≤ 192000
  product_to : samples * r.den ≤ max_samples * 192000

-- two rates in limits give such a ratio
small : {source target samples : ℕ} {r : Ratio} → InLimits source × InLimits target × (samples ≤ max_samples)
    → r ≡ lowest source target → Small samples r
small {source} {target} {samples} {r} p e =
    let terms : RatioInLimits r.num r.den = rw e (ratio_in_limits source target p.0 p.1) in
    record { num_from = terms.num_from; num_to = terms.num_to; product_to = mul-le-mul p.2 terms.den_to }

pub overflow_mul-result : goal.overflow_mul-result
overflow_mul-result c = omega (arith, small c.requires c.simplify-ratio.ensures)

pub overflow_add-result : goal.overflow_add-result
overflow_add-result c = omega (arith, small c.requires c.simplify-ratio.ensures)

pub overflow_sub-result : goal.overflow_sub-result
overflow_sub-result c = omega (arith, small c.requires c.simplify-ratio.ensures)

pub nonzero_div-result : goal.nonzero_div-result
nonzero_div-result c = omega (arith, small c.requires c.simplify-ratio.ensures)

pub returns : goal.returns
returns c = rw c.simplify-ratio.ensures

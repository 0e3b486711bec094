-- `rates::Setting::new` meets its contract: lowest terms, and what they give. Assumes nothing.
use mathlib.Core.Path.{◌≡◌}
use Prim.Native.Nat.{ℕ}
use native.Mathlib.Omega.{arith}
use Rattle.ratio.specs.Lowest.{lowest}
use Rattle.ratio.specs.declared.Ratio.{Ratio}
use Rattle.sizes.specs.Sizes.{InLimits, RatioInLimits}
use Rattle.rates.specs.Setting.{setting_of}
use Rattle.rates.proofs.Limits.{ratio_in_limits}
use Rattle.rates.proofs.Setting.new.Goals as goal

terms : {source target : ℕ} {r : Ratio} → InLimits source → InLimits target → r ≡ lowest source target
    → RatioInLimits r.num r.den
terms {source} {target} hs ht e = rw e (ratio_in_limits source target hs ht)

pub overflow_cast-ratio : goal.overflow_cast-ratio
overflow_cast-ratio c =
    let p = c.requires in
    omega (arith, terms p.1 p.2 c.simplify-ratio.ensures)

pub overflow_cast-ratio-2 : goal.overflow_cast-ratio-2
overflow_cast-ratio-2 c =
    let p = c.requires in
    omega (arith, terms p.1 p.2 c.simplify-ratio.ensures)

pub at_ratio-requires : goal.at_ratio-requires
at_ratio-requires c =
    let p = c.requires in
    (p.0, terms p.1 p.2 c.simplify-ratio.ensures)

pub returns : goal.returns
unfolding setting_of
returns c = rw (c.at_ratio.ensures, c.simplify-ratio.ensures)

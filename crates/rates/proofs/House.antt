-- What holds of the house row alone: the filter's length is from 160 to 7,680. Assumes nothing.
use Prim.Native.Nat.{ℕ, ◌≤◌}
use Rattle.sizes.specs.Sizes.{InLimits}
use Rattle.quality.specs.House.{house}
use Rattle.quality.proofs.House.{house_sane}
use Rattle.rates.specs.Setting.{setting_of}
use Rattle.rates.proofs.Limits.{limits}

pub house_length : (source target : ℕ) → InLimits source → InLimits target
    → (160 ≤ (setting_of house source target).filt_len) × ((setting_of house source target).filt_len ≤ 7680)
unfolding house
house_length source target hs ht = let l = limits house house_sane source target hs ht in (l.n_from, l.n_to)

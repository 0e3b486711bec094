-- Where a stage begins: in the state that the first rate of a new one leads to. Assumes nothing.
use mathlib.Core.Path.{◌≡◌, ◌∙◌, ap}
use mathlib.Core.List.{List}
use Prim.Native.Nat.{ℕ, ◌≤◌}
use lib.Ieee.{Float}
use lib.ListN.{length}
use native.Mathlib.Omega.{arith}
use Rattle.sizes.specs.Sizes.{InLimits, history_needed, max_history, max_coefficients}
use Rattle.quality.specs.House.{house}
use Rattle.quality.proofs.House.{house_sane}
use Rattle.rates.specs.Setting.{setting_of}
use Rattle.rates.specs.declared.Setting.{Setting}
use Rattle.rates.proofs.Limits.{limits}
use Rattle.state.specs.declared.ResamplerState.{ResamplerState}
use Rattle.pinned.specs.Pinned.{first_state}
use Rattle.pinned.proofs.First.{new_accepted, first_setting, first_rate}
use Rattle.stages.specs.Stages.{opened_stage}

module _ (source target : ℕ) (hs : InLimits source) (ht : InLimits target) (mem coefs : List Float)
    (mem-to : max_history ≤ length mem) (coefs_to : max_coefficients ≤ length coefs) where
  pub mem_long : history_needed (setting_of house source target).filt_len ≤ length mem
  mem_long = omega (arith, (limits house house_sane source target hs ht).history_to)

  pub coefs_long : (setting_of house source target).coefs ≤ length coefs
  coefs_long = omega (arith, (limits house house_sane source target hs ht).coefs_to)

  pub opened_state : (out : List Float) → (opened_stage source target mem coefs out).state ≡ first_state house source target
  opened_state out = rw (new_accepted target ht, first_rate house source target hs ht mem coefs mem_long coefs_long)

  -- which tells the filter's length
  pub filter_length_lem : (out : List Float) → (opened_stage source target mem coefs out).state.filt_len ≡ (setting_of house source target).filt_len
  filter_length_lem out = ap (λ (s : ResamplerState). s.filt_len) (opened_state out) ∙ ap (λ (s : Setting). s.filt_len) (first_setting house source target)

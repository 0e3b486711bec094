-- A new state and its first rate, for any row and any two rates in limits: both are accepted where the lent slices are long enough, and this is
-- the state, the history and the coefficients that they lead to. Assumes nothing.
use mathlib.Core.Path.{◌≡◌, ap}
use mathlib.Core.Bool.{true, false}
use mathlib.Core.List.{List, ◌++◌}
use Prim.Native.Nat.{ℕ, ◌≤◌, ◌<◌}
use native.Mathlib.Nat.{zero-max, sub-zero}
use native.Mathlib.Omega.{arith}
use borrow.Author.Tests.{le-ltb, lt-ltb, ne_eqb}
use lib.Dec.{eqb, ltb}
use lib.Ieee.{Float}
use lib.ListN.{length, take, replicate, length-replicate}
use lib.Seq.{drop-paste}
use Rattle.math.specs.Numerals.{nought}
use Rattle.history.specs.Zeroed.{zeroed}
use Rattle.sizes.specs.Sizes.{InLimits, history_needed}
use Rattle.sizes.proofs.Tests.{test_passes}
use Rattle.quality.specs.Quality.{Sane}
use Rattle.quality.specs.declared.QualityMapping.{QualityMapping}
use Rattle.rates.specs.Setting.{setting_of}
use Rattle.rates.specs.declared.Setting.{Setting}
use Rattle.state.specs.State.{fresh_state, setting_in}
use Rattle.state.specs.Belongs.{belongs_together}
use Rattle.state.proofs.Belonging.{fresh_state_belongs, rated_belongs}
use Rattle.judge.specs.Verdicts.{accept, refuse_if, new_verdict, rate_verdict}
use Rattle.judge.specs.declared.Refusal.TheVariants.{History, Coefficients}
use Rattle.judge.proofs.Judged.{ProcessAccepted}
use Rattle.update.specs.Updated.{with_setting, updated_coefficients}
use Rattle.update.proofs.Updates as updates
use Rattle.resampler.specs.Answers.{accepted}
use Rattle.resampler.specs.Entries.{new_told, rate_told, rate_history, rate_coefficients}
use Rattle.pinned.specs.Pinned.{first_state}
use Rattle.pinned.proofs.StillBelongs.{settings_agree, updated_rated}

-- ---- a new state
pub new_accepted : (target : ℕ) → InLimits target → new_told target ≡ accepted (fresh_state target) 0 0
unfolding new_told new_verdict
new_accepted target h = rw (test_passes target h)

-- ---- its first rate

-- a rate in limits is another than the 0 of a state without one
first_other : (source : ℕ) → InLimits source → eqb 0 source ≡ false
first_other source h = ne_eqb 0 source (λ z. omega (arith, h.low))

-- zeros over zeros
zeroed_twice : (h : List Float) (count : ℕ) → zeroed (zeroed h 0 count) 0 count ≡ zeroed h 0 count
zeroed_twice h count =
    let zeros = replicate count nought in
    ap (λ (r : List Float). take count zeros ++ r) (drop-paste h 0 zeros count (omega arith) (simp length-replicate (omega arith)))

module _ (row : QualityMapping) (source target : ℕ) where
  -- what the two rates give
  abbrev setting : Setting
  setting = setting_of row source target

  -- the state holds it
  pub first_setting : setting_in (first_state row source target) ≡ setting_of row source target
  unfolding fresh_state
  first_setting = settings_agree row (fresh_state target) source

  -- its history is as long as the filter needs: a fresh state has none that could be longer
  pub first_alloc : (first_state row source target).mem_alloc_size ≡ history_needed (setting_of row source target).filt_len
  unfolding with_setting fresh_state
  first_alloc = zero-max _

  module _ (hs : InLimits source) (ht : InLimits target) where
    -- only the lengths of the slices decide
    by_lengths : (memLen coefsLen : ℕ) → rate_verdict row (fresh_state target) source memLen coefsLen
        ≡ refuse_if (ltb memLen (history_needed (setting_of row source target).filt_len)) History
        (refuse_if (ltb coefsLen (setting_of row source target).coefs) Coefficients accept)
    unfolding rate_verdict fresh_state
    by_lengths memLen coefsLen =
        rw (fresh_state_belongs row target ht, test_passes source hs, first_other source hs, zero-max (history_needed setting.filt_len))

    -- a history that is too short
    pub short_gets_2 : (mem coefs : List Float) → length mem < history_needed (setting_of row source target).filt_len
        → (rate_told row (fresh_state target) source mem coefs).number ≡ 2
    unfolding rate_told
    short_gets_2 mem coefs m = rw (by_lengths (length mem) (length coefs), lt-ltb (length mem) _ m)

    -- slices that are long enough
    first_verdict : (memLen coefsLen : ℕ) → history_needed (setting_of row source target).filt_len ≤ memLen
        → (setting_of row source target).coefs ≤ coefsLen → rate_verdict row (fresh_state target) source memLen coefsLen ≡ accept
    first_verdict memLen coefsLen m k = rw (by_lengths memLen coefsLen, le-ltb memLen _ m, le-ltb coefsLen _ k)

    -- the state belongs together
    first_belongs : Sane row → belongs_together row (first_state row source target) ≡ true
    unfolding fresh_state
    first_belongs sane =
        let memLen = history_needed setting.filt_len in
        let v = first_verdict memLen setting.coefs (omega arith) (omega arith) in
        rated_belongs row (first_state row source target) sane
        (updated_rated row sane (fresh_state target) source memLen setting.coefs
        (updates.rate_ready row sane (fresh_state target) source memLen setting.coefs v (λ z. omega (arith, hs.low))))

    -- slices that are long enough for the rate are long enough for a call
    pub first_fits : Sane row → (memLen coefsLen : ℕ) → history_needed (setting_of row source target).filt_len ≤ memLen
        → (setting_of row source target).coefs ≤ coefsLen → ProcessAccepted row (first_state row source target) memLen coefsLen
    unfolding with_setting
    first_fits sane memLen coefsLen m k =
        record {
          belongs = first_belongs sane;
          has_rate = λ z. omega (arith, hs.low);
          history = omega (arith, first_alloc);
          coefficients = omega (arith, ap (λ (g : Setting). g.coefs) first_setting);
        }

    module _ (mem coefs : List Float) (m : history_needed (setting_of row source target).filt_len ≤ length mem)
        (k : (setting_of row source target).coefs ≤ length coefs) where
      -- what it tells
      pub first_rate : rate_told row (fresh_state target) source mem coefs ≡ accepted (first_state row source target) 0 0
      unfolding rate_told fresh_state
      first_rate = rw (first_verdict (length mem) (length coefs) m k, first_other source hs)

      -- the history after it: what the filter needs is 0.0
      pub first_history : rate_history row (fresh_state target) source mem coefs ≡ zeroed mem 0 (history_needed (setting_of row source target).filt_len)
      unfolding rate_history fresh_state
      first_history =
          let needed = history_needed setting.filt_len in
          rw (first_verdict (length mem) (length coefs) m k, first_other source hs, zero-max needed, sub-zero needed) (zeroed_twice mem needed)

      -- the coefficients after it: the filter's table, and past it what was there
      pub first_coefficients : rate_coefficients row (fresh_state target) source mem coefs ≡ updated_coefficients (setting_of row source target) coefs
      unfolding rate_coefficients fresh_state
      first_coefficients = rw (first_verdict (length mem) (length coefs) m k, first_other source hs)

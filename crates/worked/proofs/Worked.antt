-- Cases A to L in one proof, and the rest of the worked numbers. That a first rate and a call are accepted is a law of any two rates in limits;
-- antt computes the numbers from the definitions that the contracts cite. Assumes nothing.
use mathlib.Core.Path.{◌≡◌, refl, ap, ◌∙◌}
use mathlib.Core.Bool.{true, false}
use mathlib.Core.List.{List}
use Prim.Native.Nat.{ℕ, ◌≤◌, ◌<◌}
use native.Mathlib.Omega.{arith}
use lib.Ieee.{Float}
use lib.ListN.{length}
use Rattle.ratio.specs.Gcd.{gcd_of}
use Rattle.ratio.specs.Lowest.{lowest}
use Rattle.sizes.specs.Sizes.{InLimits, in_limits, history_needed}
use Rattle.sizes.proofs.Tests.{test_passed}
use Rattle.timeline.specs.Numbers.{call}
use Rattle.quality.specs.House.{house}
use Rattle.quality.proofs.House.{house_sane}
use Rattle.rates.specs.Setting.{setting_at, setting_of, length_of, oversample_of, kernel_of, coefficients_of}
use Rattle.rates.specs.declared.Kernel.{Kernel}
use Rattle.state.specs.State.{fresh_state, moved_to}
use Rattle.state.proofs.Belonging.{fresh_state_belongs}
use Rattle.judge.specs.Refusals.{max_call}
use Rattle.judge.specs.Verdicts.{new_verdict, rate_verdict}
use Rattle.update.specs.Updated.{with_setting}
use Rattle.process.specs.Process.{rate_in, place_in}
use Rattle.process.proofs.Processes.{played_numbers}
use Rattle.resampler.specs.Answers.{Told, accepted}
use Rattle.resampler.specs.Entries.{new_told, rate_told, played_told, process_told}
use Rattle.pinned.specs.Pinned.{first_state}
use Rattle.pinned.proofs.First.{new_accepted, short_gets_2, first_fits, first_rate}
use Rattle.pinned.proofs.Calls.{call_accepted}
use Rattle.recording.specs.Totals.{closed_total_told}
use Rattle.worked.specs.Worked.{columns, Line, CalledC, Worked, ClosedTotals, RateGets, OutsideLimits, HistoryOfD}

-- ---- a line of the table, from its columns
line : {source target num den n oversample : ℕ} {kernel : Kernel} {count : ℕ} → in_limits source ≡ true → in_limits target ≡ true
    → columns source target ≡ (num, den, n, oversample, kernel, count) → Line source target num den n oversample kernel count
unfolding with_setting setting_of setting_at
line {source} {target} s t e =
    let hs = test_passed source s in
    let ht = test_passed target t in
    let n_is = ap (λ (c : ℕ × ℕ × ℕ × ℕ × Kernel × ℕ). c.2) e in
    let count-is = ap (λ (c : ℕ × ℕ × ℕ × ℕ × Kernel × ℕ). c.5) e in
    record {
      new = new_accepted target ht;
      rate = λ mem coefs m k. first_rate house source target hs ht mem coefs (omega arith) (omega arith);
      has = e;
    }

-- ---- the first call after a first rate, with the same slices

-- what it tells, by its numbers
abbrev first_called : ℕ → ℕ → ℕ → ℕ → Told
first_called source target inn room =
    let s = first_state house source target in
    played_told s inn room (call (rate_in s) s.magic_samples inn room (place_in s))

-- it is accepted, and tells that
first_call : (source target : ℕ) → InLimits source → InLimits target → (mem coefs input out : List Float)
    → history_needed (setting_of house source target).filt_len ≤ length mem → (setting_of house source target).coefs ≤ length coefs
    → {inn room : ℕ} → length input ≡ inn → length out ≡ room → 0 < inn → inn ≤ max_call → room ≤ max_call
    → process_told house (first_state house source target) mem coefs input out ≡ first_called source target inn room
unfolding process_told
first_call source target hs ht mem coefs input out m k i o some inn room =
    let s = first_state house source target in
    let fits = first_fits house source target hs ht house_sane (length mem) (length coefs) m k in
    rw (call_accepted house s (length mem) (length coefs) fits (length input) (length out) (omega arith) (omega arith) (omega arith), ← i, ← o)
    (ap (played_told s (length input) (length out)) (played_numbers s mem coefs input (length out)))

-- a call of case C, from its numbers
called_c : {inn room consumed written position : ℕ} → 0 < inn → inn ≤ max_call → room ≤ max_call
    → first_called 48000 16000 inn room ≡ accepted (moved_to (first_state house 48000 16000) 1 position 0 0) consumed written
    → CalledC inn room consumed written position
unfolding house setting_of setting_at lowest gcd_of length_of oversample_of kernel_of coefficients_of in_limits
called_c some inn room e mem coefs input out m k i o =
    first_call 48000 16000 (test_passed 48000 refl) (test_passed 16000 refl) mem coefs input out m k i o some inn room ∙ e

-- ---- a rate outside the limits
outside_gets_1 : (rate : ℕ) → in_limits rate ≡ false → RateGets 1 rate
unfolding new_told new_verdict rate_told rate_verdict
outside_gets_1 rate e = record { new = rw e; set = λ target mem coefs h. rw (fresh_state_belongs house target h, e) }

-- ---- the worked numbers

pub worked : Worked
unfolding house setting_of setting_at lowest gcd_of length_of oversample_of kernel_of coefficients_of in_limits with_setting fresh_state
worked =
    record {
      A = line refl refl refl;
      B = line refl refl refl;
      C = line refl refl refl;
      D = line refl refl refl;
      E = line refl refl refl;
      F = line refl refl refl;
      G = line refl refl refl;
      H = line refl refl refl;
      I = called_c (omega arith) (omega arith) (omega arith) refl;
      J = called_c (omega arith) (omega arith) (omega arith) refl;
      K = called_c (omega arith) (omega arith) (omega arith) refl;
      L = called_c (omega arith) (omega arith) (omega arith) refl;
    }

pub closed_totals : ClosedTotals
unfolding closed_total_told in_limits lowest gcd_of
closed_totals = record { c_3 = refl; c_4 = refl; a_1 = refl; hour = refl }

pub outside_limits : OutsideLimits
unfolding in_limits
outside_limits = record { low = outside_gets_1 3999 refl; high = outside_gets_1 192001 refl }

pub history_of_d : HistoryOfD
unfolding house setting_of setting_at lowest gcd_of length_of oversample_of kernel_of coefficients_of in_limits
history_of_d = record {
  short = λ mem coefs m. short_gets_2 house 192000 4000 (test_passed 192000 refl) (test_passed 4000 refl) mem coefs (omega arith);
  enough = λ mem coefs m k. worked.D.rate mem coefs (omega arith) (omega arith);
}

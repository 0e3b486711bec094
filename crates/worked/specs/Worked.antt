-- Document 01, "Numbers worked by hand": cases A to L, the closed totals and the refusals, told by the definitions that the resampler's contracts
-- cite, at the house row. mem, coefs, input and out are the contents of the history, the coefficients, the input and the output, whatever they
-- are. `proofs/Worked.antt` works them out.
-- Assumes nothing.
use Rattle.std.specs.Prelude.{◌≡◌, List, ℕ, ◌≤◌, Float, length}
use Rattle.sizes.specs.Sizes.{InLimits, history_needed}
use Rattle.quality.specs.House.{house}
use Rattle.rates.specs.declared.Kernel.{Kernel}
use Rattle.rates.specs.declared.Kernel.TheVariants.{Direct, Interpolated}
use Rattle.state.specs.State.{fresh_state, setting_in, moved_to}
use Rattle.resampler.specs.Answers.{accepted}
use Rattle.resampler.specs.Entries.{new_told, rate_told, process_told}
use Rattle.pinned.specs.Pinned.{first_state}
use Rattle.recording.specs.Totals.{counted_total, closed_total_told}

-- the table's columns for two rates: num, den, n, oversample, kernel, coefficients
abbrev pub columns : ℕ → ℕ → ℕ × ℕ × ℕ × ℕ × Kernel × ℕ
columns source target =
    let s = first_state house source target in
    (s.num, s.den, s.filt_len, s.oversample, s.kernel, (setting_in s).coefs)

-- a line of the table: the new state is accepted, so is its first rate where the slices are as long as n and the coefficients ask, and the state
-- that they lead to has these columns
pub record Line (source target num den n oversample : ℕ) (kernel : Kernel) (count : ℕ) : Type 0 where
  pub new : new_told target ≡ accepted (fresh_state target) 0 0
  pub rate : (mem coefs : List Float) → history_needed n ≤ length mem → count ≤ length coefs
      → rate_told house (fresh_state target) source mem coefs ≡ accepted (first_state house source target) 0 0
  pub has : columns source target ≡ (num, den, n, oversample, kernel, count)

-- case C from fresh, with slices that are long enough: a call of so many samples in and so much room is accepted, with these counts and this
-- position; it started the state, and left phase and magic at 0
abbrev pub CalledC : ℕ → ℕ → ℕ → ℕ → ℕ → Type 0
CalledC inn room consumed written position =
    (mem coefs input out : List Float) → 639 ≤ length mem → 480 ≤ length coefs → length input ≡ inn → length out ≡ room
    → process_told house (first_state house 48000 16000) mem coefs input out
    ≡ accepted (moved_to (first_state house 48000 16000) 1 position 0 0) consumed written

-- the cases
pub record Worked : Type 0 where
  -- source, target; num, den, n, oversample; kernel, coefficients
  pub A : Line 44100 48000 147 160 160 16 Interpolated 2568
  pub B : Line 48000 44100 160 147 176 16 Interpolated 2824
  pub C : Line 48000 16000 3 1 480 8 Direct 480
  pub D : Line 192000 4000 48 1 7680 1 Direct 7680
  pub E : Line 32000 16000 2 1 320 16 Direct 320
  pub F : Line 42000 20000 21 10 336 8 Interpolated 2696
  pub G : Line 45000 48000 15 16 160 16 Direct 2560
  pub H : Line 48000 51000 16 17 160 16 Interpolated 2568
  -- samples in, room; consumed, written, position
  pub I : CalledC 158 9 158 0 82
  pub J : CalledC 300 1000 300 20 0
  pub K : CalledC 300 5 255 5 0
  pub L : CalledC 400 26 316 26 2

-- the closed totals: C twice, A, and an hour of 1000/999
pub record ClosedTotals : Type 0 where
  pub c_3 : closed_total_told 48000 16000 3 ≡ counted_total 1
  pub c_4 : closed_total_told 48000 16000 4 ≡ counted_total 2
  pub a_1 : closed_total_told 44100 48000 1 ≡ counted_total 2
  pub hour : closed_total_told 48000 47952 172800000 ≡ counted_total 172627200

-- the number that a rate gets: as the target of a new state, and as the first rate of a state with any target in limits
pub record RateGets (number rate : ℕ) : Type 0 where
  pub new : (new_told rate).number ≡ number
  pub set : (target : ℕ) (mem coefs : List Float) → InLimits target → (rate_told house (fresh_state target) rate mem coefs).number ≡ number

-- the rates next to the limits get 1
pub record OutsideLimits : Type 0 where
  pub low : RateGets 1 3999
  pub high : RateGets 1 192001

-- D's history: 7838 entries get 2, whatever the coefficients, and 7839 are enough
pub record HistoryOfD : Type 0 where
  pub short : (mem coefs : List Float) → length mem ≡ 7838 → (rate_told house (fresh_state 4000) 192000 mem coefs).number ≡ 2
  pub enough : (mem coefs : List Float) → length mem ≡ 7839 → length coefs ≡ 7680
      → rate_told house (fresh_state 4000) 192000 mem coefs ≡ accepted (first_state house 192000 4000) 0 0

-- Document 01, "Refusal numbers", "Setting a rate" and "One output, one call": for every argument, what each call tells, and what it leaves in the
-- slices that it is lent. A refused call leaves them as they were. mem, coefs, input and out are the contents of the history, the coefficients,
-- the input and the output.
-- Assumes nothing.
use Rattle.std.specs.Prelude.{ℕ, ◌/◌, cond, List, eqb, Float, length}
use Rattle.timeline.specs.Numbers.{Called}
use Rattle.history.specs.Zeroed.{zeroed}
use Rattle.quality.specs.declared.QualityMapping.{QualityMapping}
use Rattle.rates.specs.Setting.{setting_of}
use Rattle.state.specs.State.{fresh_state, zero_state, moved_to}
use Rattle.state.specs.declared.ResamplerState.{ResamplerState}
use Rattle.judge.specs.Verdicts.{new_verdict, rate_verdict, process_verdict, reset_verdict, skip_verdict}
use Rattle.update.specs.Updated.{updated_state, updated_history, updated_coefficients}
use Rattle.process.specs.Process.{played, played_state, played_output}
use Rattle.resampler.specs.Answers.{Told, refused, accepted, by_verdict}

-- ---- new state

-- a fresh one; a refused one is the state whose numbers are all 0
unfoldable pub new_told : ℕ → Told
new_told target = by_verdict (new_verdict target) (λ r. refused r zero_state) (accepted (fresh_state target) 0 0)

-- ---- set rate

-- to set the rate that is set already changes nothing
abbrev pub unless_same : {A : Type 0} → ResamplerState → ℕ → A → A → A
unless_same s source before after = cond (eqb s.source source) before after

module _ (row : QualityMapping) (s : ResamplerState) (source : ℕ) (mem coefs : List Float) where
  -- the state with what the new rates give
  unfoldable pub rate_told : Told
  rate_told =
      by_verdict (rate_verdict row s source (length mem) (length coefs)) (λ r. refused r s)
      (accepted (unless_same s source s (updated_state s source (setting_of row source s.target))) 0 0)

  -- the history, fitted to the new filter
  unfoldable pub rate_history : List Float
  rate_history =
      by_verdict (rate_verdict row s source (length mem) (length coefs)) (λ r. mem)
      (unless_same s source mem (updated_history s (setting_of row source s.target) mem))

  -- the new filter's table
  unfoldable pub rate_coefficients : List Float
  rate_coefficients =
      by_verdict (rate_verdict row s source (length mem) (length coefs)) (λ r. coefs)
      (unless_same s source coefs (updated_coefficients (setting_of row source s.target) coefs))

-- ---- process

-- what a call that was made tells
abbrev pub played_told : ResamplerState → ℕ → ℕ → Called → Told
played_told s inn room c = accepted (played_state s inn room c) c.turn.consumed c.turn.written

module _ (row : QualityMapping) (s : ResamplerState) (mem coefs input out : List Float) where
  -- the counts, and the state where the call ended
  unfoldable pub process_told : Told
  process_told =
      by_verdict (process_verdict row s (length mem) (length coefs) (length input) (length out)) (λ r. refused r s)
      (played_told s (length input) (length out) (played s coefs input (length out) mem).numbers)

  -- the history, moved on
  unfoldable pub process_history : List Float
  process_history =
      by_verdict (process_verdict row s (length mem) (length coefs) (length input) (length out)) (λ r. mem)
      (played s coefs input (length out) mem).mem

  -- the outputs, and past them what was there
  unfoldable pub process_output : List Float
  process_output =
      by_verdict (process_verdict row s (length mem) (length coefs) (length input) (length out)) (λ r. out)
      (played_output (played s coefs input (length out) mem) out)

-- ---- reset

-- position, phase and magic are 0; started stays, as all else
unfoldable pub reset_told : QualityMapping → ResamplerState → List Float → Told
reset_told row s mem = by_verdict (reset_verdict row s (length mem)) (λ r. refused r s) (accepted (moved_to s s.started 0 0 0) 0 0)

-- what is used of the history is 0.0
unfoldable pub reset_history : QualityMapping → ResamplerState → List Float → List Float
reset_history row s mem = by_verdict (reset_verdict row s (length mem)) (λ r. mem) (zeroed mem 0 s.mem_alloc_size)

-- ---- skip

-- the position is n/2, which is 0 without a rate, where n is 0
unfoldable pub skip_told : QualityMapping → ResamplerState → Told
skip_told row s =
    by_verdict (skip_verdict row s) (λ r. refused r s)
    (accepted (moved_to s s.started (s.filt_len / 2) s.samp_frac_num s.magic_samples) 0 0)

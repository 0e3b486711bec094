-- A refused call changes nothing, and any call leaves alone the history from alloc on, the coefficients past the table and the output past the
-- written count.
-- Assumes nothing.
use mathlib.Core.Path.{◌≡◌, refl}
use mathlib.Core.Bool.{Bool, cond}
use mathlib.Core.List.{List}
use Prim.Native.Nat.{ℕ, ◌≤◌}
use native.Mathlib.Omega.{arith}
use lib.Ieee.{Float}
use lib.ListN.{length, length-replicate}
use lib.Seq.{paste, length-paste}
use Rattle.timeline.specs.Numbers.{Called}
use Rattle.timeline.specs.Samples.{Played}
use Rattle.timeline.specs.Laws.{KeptFrom}
use Rattle.timeline.proofs.Parts.{drop_past}
use Rattle.timeline.proofs.Theorems.{history_of_a_call}
use Rattle.quality.specs.Quality.{Sane}
use Rattle.quality.specs.declared.QualityMapping.{QualityMapping}
use Rattle.rates.specs.Setting.{setting_at, setting_of}
use Rattle.rates.specs.declared.Setting.{Setting}
use Rattle.rates.proofs.Limits.{rate_fits}
use Rattle.filter.specs.Settings.{table_of}
use Rattle.filter.proofs.Settings.{length_table}
use Rattle.reshape.proofs.Excess.{reshaped_keeps}
use Rattle.rounds.specs.Output.{weigh_of}
use Rattle.state.specs.State.{setting_in}
use Rattle.state.specs.declared.ResamplerState.{ResamplerState}
use Rattle.judge.specs.Refusals.{max_call}
use Rattle.judge.specs.Verdicts.{Verdict, accept, rate_verdict, process_verdict, reset_verdict, skip_verdict}
use Rattle.judge.proofs.Judged.{process_accepts, process_lengths, reset_accepts}
use Rattle.update.specs.Updated.{change_of, with_setting, updated_state}
use Rattle.update.proofs.Updates as updates
use Rattle.process.specs.Process.{rate_in, place_in, played, played_output}
use Rattle.process.proofs.Processes as processes
use Rattle.resampler.specs.Answers.{Told, refused, accepted, by_verdict}
use Rattle.resampler.specs.Entries.{unless_same, rate_told, rate_history, rate_coefficients, played_told, process_told, process_history, process_output, reset_told, reset_history, skip_told}
use Rattle.pinned.specs.Pinned.{Unmoved, IsRefused, history_used, coefficients_used, PastWritten}
use Rattle.pinned.proofs.Verdicts.{cases, same_or_other, refused_by}

-- ---- a refused call
module _ (row : QualityMapping) (s : ResamplerState) where
  pub rate_untouched : (source : ℕ) (mem coefs : List Float) → IsRefused (rate_told row s source mem coefs)
      → Unmoved s (rate_told row s source mem coefs) × (rate_history row s source mem coefs ≡ mem) × (rate_coefficients row s source mem coefs ≡ coefs)
  unfolding rate_told rate_history rate_coefficients
  rate_untouched source mem coefs h =
      let v = refused_by (rate_verdict row s source (length mem) (length coefs)) s _ 0 0 h in
      rw v.1 (record { consumed = refl; written = refl; state = refl }, refl, refl)

  pub process_untouched : (mem coefs input out : List Float) → IsRefused (process_told row s mem coefs input out)
      → Unmoved s (process_told row s mem coefs input out) × (process_history row s mem coefs input out ≡ mem) × (process_output row s mem coefs input out ≡ out)
  unfolding process_told process_history process_output
  process_untouched mem coefs input out h =
      let v = refused_by (process_verdict row s (length mem) (length coefs) (length input) (length out)) s _ _ _ h in
      rw v.1 (record { consumed = refl; written = refl; state = refl }, refl, refl)

  pub reset_untouched : (mem : List Float) → IsRefused (reset_told row s mem) → Unmoved s (reset_told row s mem) × (reset_history row s mem ≡ mem)
  unfolding reset_told reset_history
  reset_untouched mem h =
      let v = refused_by (reset_verdict row s (length mem)) s _ 0 0 h in
      rw v.1 (record { consumed = refl; written = refl; state = refl }, refl)

  pub skip_untouched : IsRefused (skip_told row s) → Unmoved s (skip_told row s)
  unfolding skip_told
  skip_untouched h =
      let v = refused_by (skip_verdict row s) s _ 0 0 h in
      rw v.1 (record { consumed = refl; written = refl; state = refl })

-- ---- any call, refused or accepted: each lent slice keeps its length and what lies past what is used of it
kept_all : (k : ℕ) (l : List Float) → KeptFrom k l l
kept_all k l = record { long = refl; excess = refl }

kept_by : (used : Told → ℕ) (s : ResamplerState) (v : Verdict) (done : Told) (before after : List Float)
    → (v ≡ accept → KeptFrom (used done) before after)
    → KeptFrom (used (by_verdict v (λ r. refused r s) done)) before (by_verdict v (λ r. before) after)
kept_by used s v done before after f =
    cases (λ (w : Verdict). KeptFrom (used (by_verdict w (λ r. refused r s) done)) before (by_verdict w (λ r. before) after)) v
    (λ r. kept_all (used (refused r s)) before)
    f

-- where its first k entries were written
front_kept : (before s : List Float) (k : ℕ) → k ≤ length before → k ≤ length s → KeptFrom k before (paste before 0 s k)
front_kept before s k h l = record { long = length-paste before 0 s k (omega arith) l; excess = drop_past before s 0 k k (omega arith) (omega arith) l }

module _ (row : QualityMapping) (sane : Sane row) (s : ResamplerState) where
  -- ---- set rate
  module _ (source : ℕ) (mem coefs : List Float) where
    abbrev setting : Setting
    setting = setting_of row source s.target

    abbrev judged_rate : Verdict
    judged_rate = rate_verdict row s source (length mem) (length coefs)

    abbrev ready : judged_rate ≡ accept → (s.source ≡ source → ⊥) → updates.RateReady row s source (length mem) (length coefs)
    ready = updates.rate_ready row sane s source (length mem) (length coefs)

    -- the same rate again leaves a slice as it was
    kept_by_rate : (used : Told → ℕ) (before after : List Float)
        → ((v : judged_rate ≡ accept) → (s.source ≡ source → ⊥) → KeptFrom (used (accepted (updated_state s source setting) 0 0)) before after)
        → KeptFrom (used (by_verdict judged_rate (λ r. refused r s) (accepted (unless_same s source s (updated_state s source setting)) 0 0))) before
        (by_verdict judged_rate (λ r. before) (unless_same s source before after))
    kept_by_rate used before after f =
        kept_by used s judged_rate _ before _
        (λ v.
        same_or_other
        (λ (same : Bool). KeptFrom (used (accepted (cond same s (updated_state s source setting)) 0 0)) before (cond same before after))
        s source
        (kept_all (used (accepted s 0 0)) before)
        (f v))

    -- the history keeps its length, and its entries from the new alloc on; the coefficients keep what lies past the new table
    pub rate_keeps_excess : KeptFrom (history_used (rate_told row s source mem coefs)) mem (rate_history row s source mem coefs)
        × KeptFrom (coefficients_used (rate_told row s source mem coefs)) coefs (rate_coefficients row s source mem coefs)
    unfolding rate_told rate_history rate_coefficients with_setting setting_of setting_at
    rate_keeps_excess = (
      kept_by_rate history_used mem _ (λ v other. reshaped_keeps mem (change_of s setting) (ready v other).change),
      kept_by_rate coefficients_used coefs _
          (λ v other.
          let fits = (ready v other).table in
          front_kept coefs (table_of setting) setting.coefs fits.room (omega (arith, length_table setting (length coefs) fits))),
    )

  -- ---- reset: the history keeps its length, and its entries from alloc on
  pub reset_keeps_excess : (mem : List Float) → KeptFrom (history_used (reset_told row s mem)) mem (reset_history row s mem)
  unfolding reset_told reset_history
  reset_keeps_excess mem =
      kept_by history_used s (reset_verdict row s (length mem)) _ mem _
      (λ v. front_kept mem _ s.mem_alloc_size (reset_accepts row s (length mem) v).history (simp length-replicate (omega arith)))

-- ---- a process call, refused or accepted
module _ (row : QualityMapping) (sane : Sane row) (s : ResamplerState) (mem coefs input out : List Float) where
  abbrev judged_call : Verdict
  judged_call = process_verdict row s (length mem) (length coefs) (length input) (length out)

  abbrev done : Played Called Float
  done = played s coefs input (length out) mem

  played_keeps : judged_call ≡ accept → KeptFrom (rate_in s).alloc mem done.mem
  played_keeps v =
      let k = processes.call_ready row sane s (length mem) (length coefs) (length input) (length out) v in
      history_of_a_call (weigh_of (setting_in s) coefs) (rate_in s) s.magic_samples input (length out) (place_in s) mem
      (rate_fits s.mem_alloc_size sane k.limits k.rated.alloc_from)
      (process_accepts row s (length mem) (length coefs) (length input) (length out) v).history
      (omega (arith, k.rated.magic))

  -- the history keeps its length, and its entries from alloc on
  pub process_keeps_excess : KeptFrom (history_used (process_told row s mem coefs input out)) mem (process_history row s mem coefs input out)
  unfolding process_told process_history
  process_keeps_excess =
      kept_by history_used s judged_call _ mem _ played_keeps

  played_past : judged_call ≡ accept → PastWritten (played_told s (length input) (length out) done.numbers) input out (played_output done out)
  played_past v =
      let r = (processes.call_ready row sane s (length mem) (length coefs) (length input) (length out) v).rated in
      let law = processes.call_law row sane s r (length input) (length out) in
      let numbers = processes.played_numbers s mem coefs input (length out) in
      let consumed : done.numbers.turn.consumed ≤ length input = rw numbers law.consumed in
      let written : done.numbers.turn.written ≤ length out = rw numbers law.written in
      let enough : done.numbers.turn.written ≤ length done.out = omega (arith, processes.played_length s mem coefs input (length out)) in
      record {
        consumed = consumed;
        written = written;
        rest = front_kept out done.out done.numbers.turn.written written enough;
      }

  -- the output keeps its length, and what lies past the written count
  pub process_keeps_rest : PastWritten (process_told row s mem coefs input out) input out (process_output row s mem coefs input out)
  unfolding process_told process_output
  process_keeps_rest =
      cases
      (λ (v : Verdict).
      PastWritten (by_verdict v (λ r. refused r s) (played_told s (length input) (length out) done.numbers)) input out
      (by_verdict v (λ r. out) (played_output done out)))
      judged_call
      (λ r. record { consumed = omega arith; written = omega arith; rest = kept_all 0 out })
      played_past

  -- a call reads and writes at most the most that one call may
  pub process_within : ((process_told row s mem coefs input out).consumed ≤ max_call) × ((process_told row s mem coefs input out).written ≤ max_call)
  unfolding process_told
  process_within =
      cases
      (λ (v : Verdict).
      ((by_verdict v (λ r. refused r s) (played_told s (length input) (length out) done.numbers)).consumed ≤ max_call)
      × ((by_verdict v (λ r. refused r s) (played_told s (length input) (length out) done.numbers)).written ≤ max_call))
      judged_call
      (λ r. (omega arith, omega arith))
      (λ v.
      let long = process_lengths row s (length mem) (length coefs) (length input) (length out) v in
      let p = played_past v in
      (omega (arith, p.consumed, long.0), omega (arith, p.written, long.1)))

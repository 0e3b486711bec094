-- A state with a rate whose numbers belong together gives all that a call asks for, and the call leaves it within the same bounds.
-- Assumes nothing.
use mathlib.Core.Path.{◌≡◌, sym, ◌∙◌, ap, subst}
use mathlib.Core.List.{List}
use Prim.Native.Nat.{ℕ, ◌/◌, ◌≤◌, ◌<◌}
use native.Mathlib.Omega.{arith}
use lib.Ieee.{Float}
use lib.ListN.{length}
use lib.Seq.{paste}
use Rattle.timeline.specs.Numbers.{Fit, Called, call}
use Rattle.timeline.specs.Samples.{play_call}
use Rattle.timeline.specs.Laws.{CallLaw}
use Rattle.timeline.proofs.Theorems.{position_law, position_bound_lem, numbers_of_a_call, length_of_a_call}
use Rattle.quality.specs.Quality.{Sane}
use Rattle.quality.specs.declared.QualityMapping.{QualityMapping}
use Rattle.rates.specs.Limits.{Limits}
use Rattle.rates.specs.Rated.{rate_with}
use Rattle.rates.specs.declared.Setting.{Setting}
use Rattle.rates.proofs.Limits.{rate_fits}
use Rattle.rounds.specs.Output.{weigh_of}
use Rattle.rounds.specs.Rounds.{Playable, Wrote}
use Rattle.rounds.proofs.Settings.{setting_playable}
use Rattle.calls.specs.Calls.{CallFits, called_of}
use Rattle.calls.specs.declared.Called as made
use Rattle.state.specs.State.{setting_in, moved_to}
use Rattle.state.specs.declared.ResamplerState.{ResamplerState}
use Rattle.state.proofs.Belonging.{Rated, rated, rated_limits}
use Rattle.judge.specs.Verdicts.{accept, process_verdict}
use Rattle.judge.proofs.Judged.{process_accepts}
use Rattle.process.specs.Process.{rate_in, place_in, played, started_after, played_state, Plays}

module _ (row : QualityMapping) (sane : Sane row) (s : ResamplerState) (h : Rated row s) where
  pub within : Limits row (setting_in s)
  within = rated_limits row s sane h

  playable : Playable (setting_in s)
  playable = subst Playable (sym h.setting) (setting_playable sane h.source h.target)

  fit : Fit (rate_in s)
  fit = rate_fits s.mem_alloc_size sane within h.alloc_from

  pub call_fits : (mem coefs : ℕ) → s.mem_alloc_size ≤ mem → (setting_in s).coefs ≤ coefs
      → CallFits (setting_in s) s.mem_alloc_size s.magic_samples (place_in s) mem coefs
  call_fits mem coefs lent table =
      let alloc = h.alloc_to in
      let n = within.n_from in
      record {
        playable = playable;
        phase = h.phase;
        position = omega (arith, h.position, within.history_to);
        chunk = omega (arith, h.alloc_from);
        alloc_to = omega arith;
        lent = lent;
        magic = omega (arith, h.magic);
        table = table;
      }

  -- the call's numbers
  pub call_law : (inn room : ℕ) → CallLaw (rate_in s) s.magic_samples inn room (place_in s) (call (rate_in s) s.magic_samples inn room (place_in s))
  call_law inn room = position_law (rate_in s) fit s.magic_samples inn room (place_in s) h.phase

  pub call_position : (inn room : ℕ) → (call (rate_in s) s.magic_samples inn room (place_in s)).turn.place.position ≤ s.filt_len / 2
  call_position inn room =
      position_bound_lem (rate_in s) fit (s.filt_len / 2) within.ratio_within s.magic_samples inn room (place_in s) h.phase
      (omega (arith, h.position))

-- a call under the setting that a state holds is the state's call
pub as_played : (s : ResamplerState) (mem coefs input out : List Float) (setting : Setting) {c : Called} {left after : List Float}
    → setting ≡ setting_in s
    → Wrote (play_call (weigh_of setting coefs) (rate_with setting s.mem_alloc_size) s.magic_samples input (length out) (place_in s) mem) c left out after
    → Wrote (played s coefs input (length out) mem) c left out after
as_played s mem coefs input out setting {c} {left} {after} e w =
    subst
    (λ (t : Setting). Wrote (play_call (weigh_of t coefs) (rate_with t s.mem_alloc_size) s.magic_samples input (length out) (place_in s) mem) c left out after)
    e w

-- the numbers of the call that a state makes, and how many its outputs are
module _ (s : ResamplerState) (mem coefs input : List Float) (room : ℕ) where
  pub played_numbers : (played s coefs input room mem).numbers ≡ call (rate_in s) s.magic_samples (length input) room (place_in s)
  played_numbers = numbers_of_a_call (weigh_of (setting_in s) coefs) (rate_in s) s.magic_samples input room (place_in s) mem

  pub played_length : length (played s coefs input room mem).out ≡ (played s coefs input room mem).numbers.turn.written
  played_length =
      length_of_a_call (weigh_of (setting_in s) coefs) (rate_in s) s.magic_samples input room (place_in s) mem
      ∙ sym (ap (λ (c : Called). c.turn.written) played_numbers)

-- what a call wrote, as its contract says it
module _ (s : ResamplerState) (mem coefs input out : List Float) {r : made.Called} {left after : List Float}
    (w : Wrote (played s coefs input (length out) mem) (called_of r) left out after) where
  pub called_is : called_of r ≡ call (rate_in s) s.magic_samples (length input) (length out) (place_in s)
  called_is = w.numbers ∙ played_numbers s mem coefs input (length out)

  pub plays : {t : ResamplerState}
      → t ≡ moved_to s (started_after s (length input) (length out)) r.turn.place.position r.turn.place.phase r.magic
      → Plays s mem coefs input out (record { state = t; consumed = r.turn.consumed; written = r.turn.written }) left after
  plays e = record {
    state = e ∙ ap (played_state s (length input) (length out)) w.numbers;
    consumed = ap (λ (c : Called). c.turn.consumed) w.numbers;
    written = ap (λ (c : Called). c.turn.written) w.numbers;
    history = w.mem;
    outputs = w.out ∙ ap (paste out 0 (played s coefs input (length out) mem).out) (played_length s mem coefs input (length out));
  }

-- what an accepted call knows
pub record CallReady (row : QualityMapping) (s : ResamplerState) (mem coefs : ℕ) : Type 0 where
  pub sane : Sane row
  pub rated : Rated row s
  pub limits : Limits row (setting_in s)
  pub fits : CallFits (setting_in s) s.mem_alloc_size s.magic_samples (place_in s) mem coefs

pub call_ready : (row : QualityMapping) → Sane row → (s : ResamplerState) (mem coefs inn room : ℕ) → process_verdict row s mem coefs inn room ≡ accept
    → CallReady row s mem coefs
call_ready row sane s mem coefs inn room e =
    let v = process_accepts row s mem coefs inn room e in
    let r = rated row s v.belongs v.has_rate in
    record {
      sane = sane;
      rated = r;
      limits = within row sane s r;
      fits = call_fits row sane s r mem coefs v.history v.coefficients;
    }

-- where such a call ends
pub record Ended (s : ResamplerState) (c : Called) : Type 0 where
  pub magic : c.magic ≤ s.magic_samples
  pub position : c.turn.place.position ≤ s.filt_len / 2
  pub phase : c.turn.place.phase < s.den
  pub magic_held : c.magic ≤ s.mem_alloc_size

pub call_ends : {row : QualityMapping} (s : ResamplerState) (mem coefs input out : List Float) {r : made.Called} {left after : List Float}
    → CallReady row s (length mem) (length coefs)
    → Wrote (played s coefs input (length out) mem) (called_of r) left out after → Ended s (called_of r)
call_ends {row} s mem coefs input out k w =
    let law = call_law row k.sane s k.rated (length input) (length out) in
    rw (called_is s mem coefs input out w)
    (record {
      magic = law.magic;
      position = call_position row k.sane s k.rated (length input) (length out);
      phase = law.phase;
      magic_held = omega (arith, law.magic, k.rated.magic);
    })

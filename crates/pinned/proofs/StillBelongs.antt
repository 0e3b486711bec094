-- An accepted call hands back a state that belongs together; the state of a refused new one gets 7 from every later call. Assumes nothing.
use mathlib.Core.Path.{◌≡◌, refl, ap}
use mathlib.Core.Logic.{⊎_elim}
use mathlib.Core.Bool.{Bool, true, false, cond}
use mathlib.Core.List.{List}
use Prim.Native.Nat.{ℕ, ◌+◌, ◌*◌, ◌/◌, ◌≤◌, ◌<◌}
use native.Mathlib.Omega.{arith}
use borrow.Author.Tests.{eq-eqb}
use lib.Ieee.{Float}
use lib.ListN.{length}
use Rattle.std.proofs.lemmas.Bool.{cond_both, false_from_ne_true}
use Rattle.sizes.specs.Sizes.{InLimits, in_limits, history_needed}
use Rattle.sizes.proofs.Tests.{test_passed}
use Rattle.timeline.specs.Numbers.{Called, call, runs}
use Rattle.quality.specs.Quality.{Sane}
use Rattle.quality.specs.declared.QualityMapping.{QualityMapping}
use Rattle.rates.specs.Setting.{setting_at, setting_of}
use Rattle.reshape.specs.Reshaped.{reshaped_magic}
use Rattle.reshape.specs.declared.Change.{Change}
use Rattle.state.specs.State.{fresh_state, zero_state, setting_in, moved_to}
use Rattle.state.specs.Belongs.{position_bound, belongs_together}
use Rattle.state.specs.declared.ResamplerState.{ResamplerState}
use Rattle.state.proofs.Belonging.{Fresh, Rated, belongs_is, fresh_state_belongs, rated_belongs}
use Rattle.judge.specs.Verdicts.{Verdict, accept, new_verdict, rate_verdict, process_verdict, reset_verdict, skip_verdict}
use Rattle.judge.proofs.Judged.{new_accepts, rate_accepts, reset_accepts, skip_accepts, zero_gets_7}
use Rattle.update.specs.Updated.{change_of, with_setting, updated_state}
use Rattle.update.proofs.Updates as updates
use Rattle.process.specs.Process.{rate_in, place_in, played, started_after, played_state}
use Rattle.process.proofs.Processes as processes
use Rattle.resampler.specs.Answers.{Told, refused, by_verdict}
use Rattle.resampler.specs.Entries.{new_told, rate_told, process_told, reset_told, skip_told}
use Rattle.pinned.specs.Pinned.{new_refused, zero_refused, Belonging}
use Rattle.pinned.proofs.Verdicts.{numbered, cases, same_or_other}

-- ---- by the verdict: a refusal has a number, so it claims nothing
belonging_by : (row : QualityMapping) (given : ResamplerState) (v : Verdict) (done : Told)
    → (v ≡ accept → Belonging row done) → Belonging row (by_verdict v (λ r. refused r given) done)
belonging_by row given v done f =
    cases (λ (w : Verdict). Belonging row (by_verdict w (λ r. refused r given) done)) v (λ r e. absurd (omega (arith, numbered r))) f

-- ---- new state
pub new_belongs : (row : QualityMapping) (target : ℕ) → Belonging row (new_told target)
unfolding new_told
new_belongs row target =
    belonging_by row zero_state (new_verdict target) _ (λ v e. fresh_state_belongs row target (new_accepts target v))

-- ---- a state with a rate, at other numbers in all that moves
record Moves (s : ResamplerState) (started position phase magic : ℕ) : Type 0 where
  pub started_to : started ≤ 1
  pub unstarted : started ≡ 0 → magic ≡ 0
  pub position_to : position ≤ position_bound s.filt_len magic
  pub phase_to : phase < s.den
  pub magic_to : history_needed (s.filt_len + 2 * magic) ≤ s.mem_alloc_size

rated_moved : (row : QualityMapping) (s : ResamplerState) {started position phase magic : ℕ} → Rated row s → Moves s started position phase magic
    → Rated row (moved_to s started position phase magic)
rated_moved row s r m =
    record {
      source = r.source;
      target = r.target;
      setting = r.setting;
      buffer = r.buffer;
      alloc_from = r.alloc_from;
      alloc_to = r.alloc_to;
      phase = m.phase_to;
      position = m.position_to;
      magic = m.magic_to;
      started = m.started_to;
      unstarted = m.unstarted;
    }

-- ---- set rate

-- the state holds the setting of its two rates
pub settings_agree : (row : QualityMapping) (s : ResamplerState) (source : ℕ)
    → setting_in (updated_state s source (setting_of row source s.target)) ≡ setting_of row source s.target
unfolding with_setting setting_of setting_at
settings_agree row s source = refl

-- none where the state never started
magic_none : (c : Change) → (c.started ≡ 0 → c.magic_samples ≡ 0) → c.started ≡ 0 → reshaped_magic c ≡ 0
magic_none c none z = rw (eq-eqb c.started 0 z) (none z)

module _ (row : QualityMapping) (sane : Sane row) (s : ResamplerState) where
  -- so it is one with a rate, whose numbers belong together
  pub updated_rated : (source mem coefs : ℕ) → updates.RateReady row s source mem coefs → Rated row (updated_state s source (setting_of row source s.target))
  unfolding with_setting
  updated_rated source mem coefs k =
      let st = k.standing in
      let den = k.setting.terms.den_from in
      record {
        source = k.source_in;
        target = st.target;
        setting = settings_agree row s source;
        buffer = st.buffer;
        alloc_from = omega arith;
        alloc_to = k.alloc_to;
        phase = omega arith;
        position = omega arith;
        magic = k.magic_to;
        started = st.started;
        unstarted = magic_none (change_of s (setting_of row source s.target)) st.unstarted;
      }

  pub rate_belongs : (source : ℕ) (mem coefs : List Float) → Belonging row (rate_told row s source mem coefs)
  unfolding rate_told
  rate_belongs source mem coefs =
      belonging_by row s (rate_verdict row s source (length mem) (length coefs)) _
      (λ v e.
      same_or_other (λ (same : Bool). belongs_together row (cond same s (updated_state s source (setting_of row source s.target))) ≡ true) s source
      (rate_accepts row s source (length mem) (length coefs) v).belongs
      (λ other.
      rated_belongs row (updated_state s source (setting_of row source s.target)) sane
      (updated_rated source (length mem) (length coefs) (updates.rate_ready row sane s source (length mem) (length coefs) v other))))

  -- ---- process
  not_started : (t : Bool) → cond t 1 s.started ≡ 0 → s.started ≡ 0
  not_started true e = absurd (omega arith)
  not_started false e = e

  called_moves : (inn room : ℕ) → Rated row s → (c : Called) → c ≡ call (rate_in s) s.magic_samples inn room (place_in s)
      → Moves s (started_after s inn room) c.turn.place.position c.turn.place.phase c.magic
  called_moves inn room r c e =
      let law = processes.call_law row sane s r inn room in
      let position = processes.call_position row sane s r inn room in
      rw e
      (record {
        started_to = cond_both (runs s.magic_samples inn room) 1 s.started (λ x. x ≤ 1) (λ t. omega arith) (λ t. r.started);
        unstarted = λ z. let none = r.unstarted (not_started (runs s.magic_samples inn room) z) in omega (arith, law.magic);
        position_to = omega arith;
        phase_to = law.phase;
        magic_to = omega (arith, law.magic, r.magic);
      })

  pub process_belongs : (mem coefs input out : List Float) → Belonging row (process_told row s mem coefs input out)
  unfolding process_told
  process_belongs mem coefs input out =
      let c = (played s coefs input (length out) mem).numbers in
      belonging_by row s (process_verdict row s (length mem) (length coefs) (length input) (length out)) _
      (λ v e.
      let r = (processes.call_ready row sane s (length mem) (length coefs) (length input) (length out) v).rated in
      rated_belongs row (played_state s (length input) (length out) c) sane
      (rated_moved row s r
      (called_moves (length input) (length out) r c (processes.played_numbers s mem coefs input (length out)))))

  -- ---- reset and skip: a fresh state stays as it is
  fresh_moved : Fresh s → (t : ResamplerState) → t ≡ fresh_state s.target → belongs_together row t ≡ true
  fresh_moved f t e = rw e (fresh_state_belongs row s.target f.target)

  reset_fresh : Fresh s → moved_to s s.started 0 0 0 ≡ fresh_state s.target
  unfolding fresh_state
  reset_fresh f = ap (λ (t : ResamplerState). moved_to t t.started 0 0 0) f.is

  skip_fresh : Fresh s → moved_to s s.started (s.filt_len / 2) s.samp_frac_num s.magic_samples ≡ fresh_state s.target
  unfolding fresh_state
  skip_fresh f = ap (λ (t : ResamplerState). moved_to t t.started (t.filt_len / 2) t.samp_frac_num t.magic_samples) f.is

  pub reset_belongs : (mem : List Float) → Belonging row (reset_told row s mem)
  unfolding reset_told
  reset_belongs mem =
      belonging_by row s (reset_verdict row s (length mem)) _
      (λ v e.
      ⊎_elim (λ f. fresh_moved f _ (reset_fresh f))
      (λ (r : Rated row s).
      rated_belongs row (moved_to s s.started 0 0 0) sane
      (rated_moved row s r
      (record {
        started_to = r.started;
        unstarted = λ z. refl;
        position_to = omega arith;
        phase_to = omega (arith, r.phase);
        magic_to = omega (arith, r.alloc_from);
      })))
      (belongs_is row s (reset_accepts row s (length mem) v).belongs))

  pub skip_belongs : Belonging row (skip_told row s)
  unfolding skip_told
  skip_belongs =
      belonging_by row s (skip_verdict row s) _
      (λ v e.
      ⊎_elim (λ f. fresh_moved f _ (skip_fresh f))
      (λ (r : Rated row s).
      rated_belongs row (moved_to s s.started (s.filt_len / 2) s.samp_frac_num s.magic_samples) sane
      (rated_moved row s r
      (record {
        started_to = r.started;
        unstarted = r.unstarted;
        position_to = omega arith;
        phase_to = r.phase;
        magic_to = r.magic;
      })))
      (belongs_is row s (skip_accepts row s v)))

-- ---- a refused new state, and every later call with its state
pub refused_new : (target : ℕ) → (InLimits target → ⊥) → new_told target ≡ new_refused
unfolding new_told new_verdict
refused_new target h = rw (false_from_ne_true (in_limits target) (λ e. h (test_passed target e)))

module _ (row : QualityMapping) where
  pub zero_refused_everywhere : (source : ℕ) (mem coefs input out : List Float)
      → (rate_told row zero_state source mem coefs ≡ zero_refused) × (process_told row zero_state mem coefs input out ≡ zero_refused)
      × (reset_told row zero_state mem ≡ zero_refused) × (skip_told row zero_state ≡ zero_refused)
  unfolding rate_told process_told reset_told skip_told
  zero_refused_everywhere source mem coefs input out =
      let z = zero_gets_7 row source (length mem) (length coefs) (length input) (length out) in
      (rw z.0, rw z.1, rw z.2, rw z.3)

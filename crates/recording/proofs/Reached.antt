-- Every recording, after every one of its calls, is one of `timeline`'s: the same counts, outputs and history come from some list of offers. A call that
-- is refused changes nothing and adds no offer. Assumes nothing.
use mathlib.Core.Path.{◌≡◌, refl, sym, ◌∙◌, ap}
use mathlib.Core.Bool.{true}
use mathlib.Core.List.{List, [], ◌∷◌, ◌++◌, append-nil}
use Prim.Native.Nat.{ℕ, ◌/◌}
use native.Mathlib.Nat.{add-zero, zero-add}
use native.Mathlib.Omega.{arith}
use lib.Ieee.{Float}
use lib.ListN.{length, take, drop, replicate}
use lib.Seq.{take_all}
use Rattle.std.specs.Prelude.{Err}
use Rattle.math.specs.Numerals.{nought}
use Rattle.timeline.specs.Numbers.{Called, fresh}
use Rattle.timeline.specs.Samples.{Played, play_then, play_call}
use Rattle.timeline.specs.Recording as timeline
use Rattle.timeline.specs.Recording.{Offer, call_then, play_one_more}
use Rattle.timeline.proofs.Cuttings.{play_calls_last}
use Rattle.timeline.proofs.Parts.{take_front, take-replicate}
use Rattle.quality.specs.Quality.{Sane}
use Rattle.quality.specs.declared.QualityMapping.{QualityMapping}
use Rattle.rates.specs.Rated.{rate_with}
use Rattle.rates.specs.declared.Setting.{Setting}
use Rattle.rounds.specs.Output.{weigh_of}
use Rattle.state.specs.State.{fresh_state, setting_in}
use Rattle.state.specs.Belongs.{belongs_together}
use Rattle.state.specs.declared.ResamplerState.{ResamplerState}
use Rattle.judge.specs.Verdicts.{Verdict, accept, process_verdict}
use Rattle.judge.specs.declared.Refusal.{Refusal}
use Rattle.judge.proofs.Judged.{ProcessAccepted}
use Rattle.update.specs.Updated.{with_setting, updated_coefficients}
use Rattle.process.specs.Process.{place_in, played, played_output}
use Rattle.process.proofs.Processes.{played_length}
use Rattle.resampler.specs.Answers.{told, refused, accepted, by_verdict}
use Rattle.resampler.specs.Entries.{played_told, process_told, process_history, process_output}
use Rattle.resampler.specs.Promises.{SetsRate}
use Rattle.pinned.specs.Pinned.{first_state}
use Rattle.pinned.proofs.First.{new_accepted, first_rate, first_history, first_coefficients, first_setting, first_alloc, first_fits}
use Rattle.pinned.proofs.Verdicts.{cases}
use Rattle.pinned.proofs.StillBelongs.{process_belongs}
use Rattle.pinned.proofs.Untouched.{rate_keeps_excess, process_keeps_excess}
use Rattle.recording.specs.Recording.{Call, Recording, Progress, setting_for, rate_for, whole_input, opened, after_told, after, after_all, finished, offered, Follows, AllFollow, MadeUnder}

-- ---- a recording in `timeline`'s words
module _ (row : QualityMapping) (r : Recording) where
  -- one output, by the coefficients that set rate left
  abbrev pub weighing : ℕ → List Float → Float
  weighing = weigh_of (setting_for row r) r.coefs'

  -- the recording that a list of offers makes
  abbrev pub by_offers : List Offer → Played Called Float
  by_offers os = timeline.recording weighing nought (rate_for row r) (drop (rate_for row r).alloc r.mem) (whole_input row r) os

-- what was done so far
abbrev pub done : Progress → Played Called Float
done h =
    record {
      numbers =
          record {
            turn = record { consumed = h.consumed; written = h.written; place = place_in h.state };
            magic = h.state.magic_samples;
          };
      out = h.outputs;
      mem = h.mem;
    }

-- where a recording may stand: some offers lead there, the state and the slices are such that only the input and the room of a call can get it
-- refused, and what set rate fixed still holds
pub record Reached (row : QualityMapping) (r : Recording) (h : Progress) : Type 0 where
  pub offers : List Offer
  pub same : by_offers row r offers ≡ done h
  pub fits : ProcessAccepted row h.state (length h.mem) (length h.coefs)
  pub setting : setting_in h.state ≡ setting_for row r
  pub alloc : h.state.mem_alloc_size ≡ (rate_for row r).alloc
  pub coefs : h.coefs ≡ r.coefs'

-- ---- one call more
module _ (h : Progress) where
  -- a refused call leaves all as it was
  after_refused : (f : Refusal) (out : List Float) → after_told h (refused f h.state) h.mem out ≡ h
  after_refused f out = rw (add-zero h.consumed, add-zero h.written, append-nil h.outputs)

  -- an accepted one is one of `timeline`'s calls more
  after_played : (inn : ℕ) (out : List Float) (p : Played Called Float) → length p.out ≡ p.numbers.turn.written
      → done (after_told h (played_told h.state inn (length out) p.numbers) p.mem (played_output p out)) ≡ play_then call_then (done h) p
  after_played inn out p e =
      let k = p.numbers.turn.written in
      let takes : take k (played_output p out) ≡ p.out = take_front out p.out k (omega arith) ∙ take_all k p.out (omega arith) in
      ap (λ (l : List Float). record { numbers = call_then (done h).numbers p.numbers; out = h.outputs ++ l; mem = p.mem }) takes

module _ (row : QualityMapping) (r : Recording) (h : Progress) (c : Call) where
  abbrev input : List Float
  input = offered (whole_input row r) h c

  abbrev room : ℕ
  room = length c.out

  -- as an offer
  abbrev pub offer : Offer
  offer = record { samples = c.offers; room = room }

  -- its verdict
  abbrev pub judged : Verdict
  judged = process_verdict row h.state (length h.mem) (length h.coefs) (length input) room

  -- the call that the state makes
  abbrev ours : Played Called Float
  ours = played h.state h.coefs input room h.mem

  -- and `timeline`'s
  abbrev pub theirs : Played Called Float
  theirs = play_call (weighing row r) (rate_for row r) h.state.magic_samples input room (place_in h.state) h.mem

  -- what each verdict leads to
  abbrev leads : Verdict → Progress
  leads v =
      after_told h (by_verdict v (λ f. refused f h.state) (played_told h.state (length input) room ours.numbers))
      (by_verdict v (λ f. h.mem) ours.mem) (by_verdict v (λ f. c.out) (played_output ours c.out))

  module _ (p : Follows row (whole_input row r) h c) where
    by_verdict_lem : after h c ≡ leads judged
    unfolding process_told process_history process_output
    by_verdict_lem = rw (p.tells, p.history, p.output)

    -- a refused call changes nothing
    pub refused_stays : (f : Refusal) → judged ≡ Err f → after h c ≡ h
    refused_stays f v = by_verdict_lem ∙ rw v (after_refused h f c.out)

    pub refused_output : (f : Refusal) → judged ≡ Err f → c.out' ≡ c.out
    unfolding process_output
    refused_output f v = p.output ∙ rw v

module _ (row : QualityMapping) (sane : Sane row) (r : Recording) (h : Progress) (g : Reached row r h) (c : Call) where
  -- the two calls are the same: the setting, alloc and the coefficients did not change
  ours_is : ours row r h c ≡ theirs row r h c
  ours_is =
      let call : Setting → ℕ → List Float → Played Called Float =
      λ s alloc coefs. play_call (weigh_of s coefs) (rate_with s alloc) h.state.magic_samples (input row r h c) (room row r h c) (place_in h.state) h.mem in
      ap (λ (s : Setting). call s h.state.mem_alloc_size h.coefs) g.setting
      ∙ ap (λ (alloc : ℕ). call (setting_for row r) alloc h.coefs) g.alloc
      ∙ ap (call (setting_for row r) (rate_for row r).alloc) g.coefs

  -- so an accepted call is one of `timeline`'s more
  leads_on : done (leads row r h c accept) ≡ play_then call_then (done h) (theirs row r h c)
  leads_on =
      after_played h (length (input row r h c)) c.out (ours row r h c) (played_length h.state h.mem h.coefs (input row r h c) (room row r h c))
      ∙ ap (play_then call_then (done h)) ours_is

  pub accepted_done : judged row r h c ≡ accept → Follows row (whole_input row r) h c → done (after h c) ≡ play_then call_then (done h) (theirs row r h c)
  accepted_done v p = ap done (by_verdict_lem row r h c p) ∙ rw v leads_on

  -- the state it hands back belongs together, and the history keeps its length
  still_belongs : judged row r h c ≡ accept → belongs_together row (leads row r h c accept).state ≡ true
  unfolding process_told
  still_belongs v = (rw v at (process_belongs row sane h.state h.mem h.coefs (input row r h c) c.out)) refl

  still_long : judged row r h c ≡ accept → length (leads row r h c accept).mem ≡ length h.mem
  unfolding process_history
  still_long v = rw v at (process_keeps_excess row sane h.state h.mem h.coefs (input row r h c) c.out).long

  accepted_reaches : judged row r h c ≡ accept → Reached row r (leads row r h c accept)
  accepted_reaches v =
      record {
        offers = g.offers ++ (offer row r h c ∷ []);
        same =
            play_calls_last (weighing row r) (rate_for row r) (whole_input row r) g.offers (offer row r h c) _
            ∙ ap (play_one_more (weighing row r) (rate_for row r) (whole_input row r) (offer row r h c)) g.same
            ∙ sym leads_on;
        fits =
            record {
              belongs = still_belongs v;
              has_rate = g.fits.has_rate;
              history = omega (arith, still_long v, g.fits.history);
              coefficients = g.fits.coefficients;
            };
        setting = g.setting;
        alloc = g.alloc;
        coefs = g.coefs;
      }

  -- either way the recording stands where one may stand
  pub one_more_reached : Follows row (whole_input row r) h c → Reached row r (after h c)
  one_more_reached p =
      rw (by_verdict_lem row r h c p)
      (cases (λ (v : Verdict). Reached row r (leads row r h c v)) (judged row r h c) (λ f. rw (after_refused h f c.out) g) accepted_reaches)

-- ---- the first
module _ (row : QualityMapping) (sane : Sane row) (r : Recording) (m : MadeUnder row r) where
  -- a new state for a target in limits is accepted, and so is its first rate
  new_is : told r.new_answer ≡ accepted (fresh_state r.target) 0 0
  new_is = m.new ∙ new_accepted r.target m.target_in

  set_rate : SetsRate row (fresh_state r.target) r.source r.mem r.coefs r.rate_answer r.mem' r.coefs'
  set_rate = rw new_is at m.rate

  rated_is : told r.rate_answer ≡ accepted (first_state row r.source r.target) 0 0
  rated_is = set_rate.tells ∙ first_rate row r.source r.target m.source_in m.target_in r.mem r.coefs m.history m.coefficients

  -- the history is silence, and past alloc what was there
  mem_is : r.mem' ≡ replicate (rate_for row r).alloc nought ++ drop (rate_for row r).alloc r.mem
  mem_is =
      set_rate.history
      ∙ first_history row r.source r.target m.source_in m.target_in r.mem r.coefs m.history m.coefficients
      ∙ rw (take-replicate (rate_for row r).alloc (rate_for row r).alloc nought (omega arith), zero-add (rate_for row r).alloc)

  -- the coefficients are the table, and past it what was there
  pub coefs_is : r.coefs' ≡ updated_coefficients (setting_for row r) r.coefs
  coefs_is =
      set_rate.coefficients
      ∙ first_coefficients row r.source r.target m.source_in m.target_in r.mem r.coefs m.history m.coefficients

  -- both keep their lengths
  mem_long : length r.mem' ≡ length r.mem
  mem_long = ap length set_rate.history ∙ (rate_keeps_excess row sane (fresh_state r.target) r.source r.mem r.coefs).0.long

  coefs_long : length r.coefs' ≡ length r.coefs
  coefs_long = ap length set_rate.coefficients ∙ (rate_keeps_excess row sane (fresh_state r.target) r.source r.mem r.coefs).1.long

  -- it begins where `timeline`'s does: at n/2, at phase 0, without magic samples
  abbrev first : ResamplerState
  first = first_state row r.source r.target

  first_place : place_in first ≡ fresh (rate_for row r)
  unfolding with_setting fresh_state
  first_place = ap (λ (phase : ℕ). record { position = (setting_for row r).filt_len / 2; phase = phase }) (omega arith)

  first_magic : first.magic_samples ≡ 0
  unfolding with_setting fresh_state
  first_magic = refl

  pub first_reached : Reached row r (opened r)
  first_reached =
      rw rated_is
      (record {
        offers = [];
        same = rw (mem_is, first_place, first_magic);
        fits =
            first_fits row r.source r.target m.source_in m.target_in sane (length r.mem') (length r.coefs')
            (omega (arith, mem_long, m.history)) (omega (arith, coefs_long, m.coefficients));
        setting = first_setting row r.source r.target;
        alloc = first_alloc row r.source r.target;
        coefs = refl;
      })

-- ---- all of them
all_reached : (row : QualityMapping) → Sane row → (r : Recording) (h : Progress) (cs : List Call) → Reached row r h
    → AllFollow row (whole_input row r) h cs → Reached row r (after_all h cs)
all_reached row sane r h [] g e = g
all_reached row sane r h (c ∷ cs) g e = all_reached row sane r (after h c) cs (one_more_reached row sane r h g c e.0) e.1

pub reached : (row : QualityMapping) → Sane row → (r : Recording) → MadeUnder row r → Reached row r (finished r)
reached row sane r m = all_reached row sane r (opened r) r.calls (first_reached row sane r m) m.calls

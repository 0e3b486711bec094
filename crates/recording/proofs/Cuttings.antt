-- Every cutting is a recording: for rates in limits and slices that are long enough there are answers that the contracts ask for, whatever the calls are
-- given. So the theorems are not about nothing; and for all samples there is a recording that is read to its end. Assumes nothing.
use mathlib.Core.Path.{◌≡◌, refl, sym, ◌∙◌, ap}
use mathlib.Core.List.{List, [], ◌∷◌, map}
use Prim.Native.Nat.{ℕ, zero, suc, ◌+◌, ◌≤◌}
use native.Mathlib.Omega.{arith}
use lib.Ieee.{Float}
use lib.ListN.{length, take, drop, replicate, length-replicate, length-map}
use Rattle.std.specs.Prelude.{Ok, Err}
use Rattle.math.specs.Numerals.{nought}
use Rattle.sizes.specs.Sizes.{InLimits, history_needed}
use Rattle.timeline.specs.Numbers.{Called}
use Rattle.quality.specs.Quality.{Sane}
use Rattle.quality.specs.declared.QualityMapping.{QualityMapping}
use Rattle.rates.specs.Setting.{setting_of}
use Rattle.state.specs.State.{fresh_state}
use Rattle.state.specs.declared.ResamplerState.{ResamplerState}
use Rattle.judge.specs.Verdicts.{Verdict, process_verdict}
use Rattle.process.specs.Process.{played, played_state}
use Rattle.resampler.specs.Answers.{Answer, told, refused, accepted, by_verdict}
use Rattle.resampler.specs.Entries.{rate_history, rate_coefficients, process_told, process_history, process_output}
use Rattle.resampler.specs.Promises.{Processes}
use Rattle.pinned.specs.Pinned.{first_state}
use Rattle.pinned.proofs.First.{new_accepted, first_rate}
use Rattle.recording.specs.Recording.{Call, Recording, Progress, whole_input, opened, after, Follows, AllFollow, with_calls}
use Rattle.recording.specs.Demand3.{to_read, AllRead, total, AllGetOn, given, CutAs}
use Rattle.recording.proofs.Reading.{read_at_last}

-- ---- an answer that tells what is asked for
abbrev answering : ResamplerState → ℕ → ℕ → Answer
answering s consumed written = Ok (record { state = s; consumed = record { 0 = consumed }; written = record { 0 = written } })

-- by the verdict
answer_tells : (v : Verdict) (before after : ResamplerState) (consumed written : ℕ)
    → told (by_verdict v (λ f. Err (record { refusal = f; state = before })) (answering after consumed written))
    ≡ by_verdict v (λ f. refused f before) (accepted after consumed written)
answer_tells (Err f) before after consumed written = refl
answer_tells (Ok x) before after consumed written = refl

-- of a call
module _ (row : QualityMapping) (s : ResamplerState) (mem coefs input out : List Float) where
  abbrev verdict : Verdict
  verdict = process_verdict row s (length mem) (length coefs) (length input) (length out)

  abbrev numbers : Called
  numbers = (played s coefs input (length out) mem).numbers

  abbrev pub process_answer : Answer
  process_answer =
      by_verdict verdict (λ f. Err (record { refusal = f; state = s }))
      (answering (played_state s (length input) (length out) numbers) numbers.turn.consumed numbers.turn.written)

  -- with the slices as the contract says they are
  pub process_answers : Processes row s mem coefs input out process_answer (process_history row s mem coefs input out) (process_output row s mem coefs input out)
  unfolding process_told
  process_answers =
      record {
        tells = answer_tells verdict s (played_state s (length input) (length out) numbers) numbers.turn.consumed numbers.turn.written;
        history = refl;
        output = refl;
      }

-- ---- a call, and a list of calls, for whatever they are given

-- one sample, and room for one output
abbrev one : ℕ × List Float
one = (1, nought ∷ [])

module _ (row : QualityMapping) (xs : List Float) where
  abbrev call_for : Progress → ℕ × List Float → Call
  call_for h a =
      let input = take a.0 (drop h.consumed xs) in
      record {
        offers = a.0;
        out = a.1;
        answer = process_answer row h.state h.mem h.coefs input a.1;
        mem' = process_history row h.state h.mem h.coefs input a.1;
        out' = process_output row h.state h.mem h.coefs input a.1;
      }

  -- it is what the contract asks for, and so is each of a list
  call_follows : (h : Progress) (a : ℕ × List Float) → Follows row xs h (call_for h a)
  call_follows h a = process_answers row h.state h.mem h.coefs (take a.0 (drop h.consumed xs)) a.1

  abbrev calls_for : Progress → List (ℕ × List Float) → List Call
  calls_for h [] = []
  calls_for h (a ∷ more) = call_for h a ∷ calls_for (after h (call_for h a)) more

  calls_follow : (h : Progress) (cut : List (ℕ × List Float)) → AllFollow row xs h (calls_for h cut)
  calls_follow h [] = tt
  calls_follow h (a ∷ more) = (call_follows h a, calls_follow (after h (call_for h a)) more)

  -- they are given what they should be, and as many as there should be
  calls_given : (h : Progress) (cut : List (ℕ × List Float)) → map given (calls_for h cut) ≡ cut
  calls_given h [] = refl
  calls_given h (a ∷ more) = ap (λ (l : List (ℕ × List Float)). a ∷ l) (calls_given (after h (call_for h a)) more)

  calls_long : (h : Progress) (cut : List (ℕ × List Float)) → length (calls_for h cut) ≡ length cut
  calls_long h cut = sym (length-map (calls_for h cut) given) ∙ ap length (calls_given h cut)

  -- calls with one sample and room for one output each get on
  ones_get_on : (h : Progress) (k : ℕ) → AllGetOn (calls_for h (replicate k one))
  ones_get_on h zero = tt
  ones_get_on h (suc k) =
      (record { some = omega arith; offers_to = omega arith; room = omega arith; room_to = omega arith }, ones_get_on (after h (call_for h one)) k)

-- ---- a recording
module _ (row : QualityMapping) (source target : ℕ) (samples mem coefs : List Float) where
  -- before its calls: what `new` and set rate answer and leave
  abbrev pub begun : Recording
  begun =
      record {
        source = source;
        target = target;
        samples = samples;
        mem = mem;
        coefs = coefs;
        new_answer = answering (fresh_state target) 0 0;
        rate_answer = answering (first_state row source target) 0 0;
        mem' = rate_history row (fresh_state target) source mem coefs;
        coefs' = rate_coefficients row (fresh_state target) source mem coefs;
        calls = [];
      }

  -- and with the calls that are given this
  abbrev recording_for : List (ℕ × List Float) → Recording
  recording_for cut = with_calls begun (calls_for row (whole_input row begun) (opened begun) cut)

  module _ (hs : InLimits source) (ht : InLimits target) (m : history_needed (setting_of row source target).filt_len ≤ length mem)
      (k : (setting_of row source target).coefs ≤ length coefs) where
    -- it is one, and it was cut so
    pub cut_as : (cut : List (ℕ × List Float)) → CutAs row source target samples mem coefs cut (recording_for cut)
    cut_as cut =
        record {
          made_under =
              record {
                source_in = hs;
                target_in = ht;
                history = m;
                coefficients = k;
                new = sym (new_accepted target ht);
                rate = record { tells = sym (first_rate row source target hs ht mem coefs m k); history = refl; coefficients = refl };
                calls = calls_follow row (whole_input row begun) (opened begun) cut;
              };
          source_is = refl;
          target_is = refl;
          samples_are = refl;
          mem_is = refl;
          coefs_are = refl;
          cut_is = calls_given row (whole_input row begun) (opened begun) cut;
        }

    -- every cutting
    pub every_cutting : (cut : List (ℕ × List Float)) → (r : Recording) × CutAs row source target samples mem coefs cut r
    every_cutting cut = (recording_for cut, cut_as cut)

    -- one of them reads to the end: calls with one sample and room for one output each, as many as there is to read and to make
    pub can_be_read : Sane row → (cut : List (ℕ × List Float)) × (r : Recording) × CutAs row source target samples mem coefs cut r × AllRead row r
    can_be_read sane =
        let calls = to_read row begun + total row begun in
        let cut = replicate calls one in
        let long : length (recording_for cut).calls ≡ calls = calls_long row (whole_input row begun) (opened begun) cut ∙ length-replicate calls one in
        (cut, recording_for cut, cut_as cut, read_at_last row sane (recording_for cut) (cut_as cut).made_under (ones_get_on row (whole_input row begun) (opened begun) calls) (omega (arith, long)))

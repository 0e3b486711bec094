-- A file whose rates differ: its reads, however they are cut, and the zeros after them are the calls of one recording, which is read to its end.
-- So the blocks handed on are the recording's outputs. Assumes nothing.
use mathlib.Core.Path.{◌≡◌, refl, sym, ◌∙◌, ap, subst}
use mathlib.Core.Bool.{Bool, ◌||◌}
use mathlib.Core.Logic.{inl, inr}
use mathlib.Core.List.{List, [], ◌∷◌, ◌++◌, append_assoc, append-nil}
use Prim.Native.Nat.{ℕ, zero, suc, ◌+◌, ◌-◌, ◌*◌, ◌/◌, ◌≤◌, ◌<◌}
use native.Mathlib.Nat.{zero-add, div-eq_of_lt, mul-le-mul_left, mul-le-mul_right}
use native.Mathlib.Omega.{arith}
use borrow.Author.Tests.{lt-ltb}
use lib.Dec.{ltb}
use lib.Ieee.{Float, nan}
use lib.ListN.{length, get_or, take, drop, replicate, length-append, length-take, length-drop, length-replicate}
use lib.Seq.{take-append_seam, drop-append_seam, drop-drop, ext_get_or}
use Rattle.math.specs.Numerals.{nought}
use Rattle.ratio.specs.Lowest.{lowest}
use Rattle.ratio.proofs.Laws.{same_ratio}
use Rattle.sizes.specs.Sizes.{InLimits, history_needed}
use Rattle.timeline.specs.Laws.{upwards}
use Rattle.timeline.specs.Recording.{stream_output, stream_outputs}
use Rattle.timeline.proofs.Places.{below_or_not}
use Rattle.timeline.proofs.Parts.{take-replicate}
use Rattle.timeline.proofs.Count.{never_more}
use Rattle.timeline.proofs.Streams.{length_closed, length_stream_outputs, stream_output_at}
use Rattle.quality.specs.House.{house}
use Rattle.quality.proofs.House.{house_sane}
use Rattle.rates.specs.Setting.{setting_at, setting_of}
use Rattle.rates.specs.declared.Setting.{Setting}
use Rattle.rates.proofs.Numbers.{length_up}
use Rattle.rates.proofs.House.{house_length}
use Rattle.filter.specs.Settings.{table_of}
use Rattle.kernel.specs.Sums.{at}
use Rattle.rounds.specs.Output.{weigh_of}
use Rattle.judge.specs.Refusals.{max_call}
use Rattle.resampler.specs.Answers.{Told}
use Rattle.resampler.specs.Entries.{process_told}
use Rattle.pinned.proofs.First.{new_accepted, first_rate}
use Rattle.pinned.proofs.Untouched.{process_keeps_rest}
use Rattle.recording.specs.Recording as recording
use Rattle.recording.specs.Recording.{Call, Recording, Progress, whole_input, rate_for, after_told, after, after_all, finished, Follows, AllFollow, MadeUnder, with_calls}
use Rattle.recording.specs.Demand3.{num, den, n, M, made, to_read, total}
use Rattle.recording.proofs.Cuttings.{process_answer, process_answers, begun, cut_as}
use Rattle.recording.proofs.Reached.{Reached, first_reached, one_more_reached, reached}
use Rattle.recording.proofs.Counts.{total_is, rate_fit, moved}
use Rattle.recording.proofs.Reading.{reads_its_own}
use Rattle.recording.proofs.Theorems.{count, outputs_of_a_recording}
use Rattle.pcm.specs.Blocks.{samples_of, bytes_of}
use Rattle.pcm.proofs.Blocks.{length_samples, bytes_append}
use Rattle.edges.specs.Edges.{odd_of, closing_zeros, closing}
use Rattle.stages.specs.Stages.{Stage, opened_stage, pulled, handed, block, fed}
use Rattle.edges.proofs.Laws.{zeros_to}
use Rattle.conformed.specs.Conformed.{closed_input, resampled}
use Rattle.conformed.specs.Program.{Slices, Long, AllShort, max_outputs, joined, resampled_blocks, OfTheFile}
use Rattle.conformed.proofs.Opened.{mem_long, coefs_long}
use Rattle.conformed.proofs.Odd.{odd_length, no_sample, samples_cut}

-- ---- a stage as a recording's progress
abbrev progress_of : Stage → ℕ → ℕ → List Float → Progress
progress_of g T k os = record { state = g.state; mem = g.mem; coefs = g.coefs; consumed = T; written = k; outputs = os }

-- a call as one of a recording
module _ (g : Stage) (input : List Float) where
  abbrev tells : Told
  tells = process_told house g.state g.mem g.coefs input g.out

  abbrev call_of : Call
  call_of =
      record {
        offers = length input;
        out = g.out;
        answer = process_answer house g.state g.mem g.coefs input g.out;
        mem' = (pulled g input).mem;
        out' = (pulled g input).out;
      }

  -- it leads to the next stage
  after_call : (T k : ℕ) (os : List Float) → after (progress_of g T k os) call_of
      ≡ progress_of (pulled g input) (T + tells.consumed) (k + tells.written) (os ++ take tells.written (pulled g input).out)
  after_call T k os =
      ap (λ (t : Told). after_told (progress_of g T k os) t (pulled g input).mem (pulled g input).out)
      (process_answers house g.state g.mem g.coefs input g.out).tells

  -- the output keeps its length
  pulled_out : length (pulled g input).out ≡ length g.out
  pulled_out = (process_keeps_rest house house_sane g.state g.mem g.coefs input g.out).rest.long

-- what holds from one progress on holds from another that is equal
starts_with : {A : Type 0} (f : Progress → A) {h h' : Progress} {a : A} → h ≡ h' → f h' ≡ a → f h ≡ a
starts_with f e q = ap f e ∙ q

-- a sample came, now or before
came_more : (a b : ℕ) → ltb 0 a || ltb 0 b ≡ ltb 0 (a + b)
came_more zero b = rw (zero-add b)
came_more (suc a) b = rw (lt-ltb 0 (suc a) (omega arith), lt-ltb 0 (suc a + b) (omega arith))

module _ (source target : ℕ) (hs : InLimits source) (ht : InLimits target) (l : Slices) (long : Long l) (body : List ℕ) where
  abbrev setting : Setting
  setting = setting_of house source target

  -- the recording, without its calls
  abbrev r : Recording
  r = begun house source target (samples_of body) l.mem l.coefs

  mem_enough : history_needed setting.filt_len ≤ length l.mem
  mem_enough = mem_long source target hs ht l.mem l.coefs long.mem long.coefs

  coefs_enough : setting.coefs ≤ length l.coefs
  coefs_enough = coefs_long source target hs ht l.mem l.coefs long.mem long.coefs

  begun_under : MadeUnder house r
  begun_under = (cut_as house source target (samples_of body) l.mem l.coefs hs ht mem_enough coefs_enough []).made_under

  abbrev xs : List Float
  xs = whole_input house r

  abbrev zeros : List Float
  zeros = replicate (n house r / 2) nought

  -- ---- it begins where the stage does
  abbrev first : Stage
  first = opened_stage source target l.mem l.coefs l.out

  begins : progress_of first 0 0 [] ≡ recording.opened r
  begins = rw (new_accepted target ht, first_rate house source target hs ht l.mem l.coefs mem_enough coefs_enough)

  -- ---- the room is more than the outputs of a block, and of the zeros
  terms : den house r ≤ 48 * num house r
  unfolding setting_of setting_at
  terms =
      let a = (lowest source target).num in
      let b = (lowest source target).den in
      let low : 4000 * b ≤ source * b = mul-le-mul_right b hs.low in
      let high : a * target ≤ a * 192000 = mul-le-mul_left a ht.high in
      omega (arith, same_ratio source target)

  block_room : (inn room : ℕ) → inn ≤ 1024 → max_outputs ≤ room → den house r * inn + num house r ≤ room * num house r
  block_room inn room h w =
      let a : den house r * inn ≤ 48 * num house r * inn = mul-le-mul_right inn terms in
      let b : num house r * inn ≤ num house r * 1024 = mul-le-mul_left (num house r) h in
      let c : max_outputs * num house r ≤ room * num house r = mul-le-mul_right (num house r) w in
      omega arith

  base_length : num house r ≤ den house r → n house r ≡ 160
  unfolding setting_of setting_at house
  base_length h = length_up house (num house r) (den house r) h

  closing_room : (inn room : ℕ) → inn ≤ n house r / 2 → max_outputs ≤ room → den house r * inn + num house r ≤ room * num house r
  closing_room inn room h w = elim (below_or_not (den house r) (num house r)) [
    | inl down ↦
        (let a : den house r * inn ≤ num house r * inn = mul-le-mul_right inn (omega arith) in
        let b : num house r * inn ≤ num house r * 3840 = mul-le-mul_left (num house r) (omega (arith, (house_length source target hs ht).1)) in
        let c : max_outputs * num house r ≤ room * num house r = mul-le-mul_right (num house r) w in
        omega arith)
    | inr up ↦ block_room inn room (omega (arith, base_length up)) w
  ]

  -- ---- one call more of it
  module _ (g : Stage) (T k : ℕ) (os : List Float) (there : Reached house r (progress_of g T k os))
      (room : max_outputs ≤ length g.out) (room_to : length g.out ≤ max_call) (input : List Float)
      (next : take (length input) (drop T xs) ≡ input) where
    abbrev then : Progress
    then = progress_of (pulled g input) (T + length input) (k + (tells g input).written) (os ++ take (tells g input).written (pulled g input).out)

    follows : Follows house xs (progress_of g T k os) (call_of g input)
    follows = rw next (process_answers house g.state g.mem g.coefs input g.out)

    -- the samples offered are left
    left : T + length input ≤ to_read house r
    left =
        let a = length-drop T xs in
        let b = length_closed nought (rate_for house r) (samples_of body) in
        let c = ap length next in
        omega (arith, (moved house house_sane r begun_under (progress_of g T k os) there).consumed, length-take (length input) (drop T xs))

    one_call : length input ≤ max_call → den house r * length input + num house r ≤ length g.out * num house r
        → after (progress_of g T k os) (call_of g input) ≡ then
    one_call to w =
        let c = reads_its_own house house_sane r begun_under (progress_of g T k os) there (call_of g input) follows left to room_to w in
        let e = after_call g input T k os in
        e ∙ ap (λ (t : ℕ). progress_of (pulled g input) t (k + (tells g input).written) (os ++ take (tells g input).written (pulled g input).out))
        (ap (λ (h : Progress). h.consumed) (sym e) ∙ c)

    reaches : length input ≤ max_call → den house r * length input + num house r ≤ length g.out * num house r → Reached house r then
    reaches to w = rw (one_call to w) at (one_more_reached house house_sane r (progress_of g T k os) there (call_of g input) follows)

  -- ---- all of them

  -- from a stage on: calls that follow, read everything and write the blocks that are handed on
  record Walked (g : Stage) (T k : ℕ) (os : List Float) (reads : List (List ℕ)) : Type 0 where
    calls : List Call
    follow : AllFollow house xs (progress_of g T k os) calls
    consumed : (after_all (progress_of g T k os) calls).consumed ≡ M house r + closing_zeros (ltb 0 (M house r)) (n house r)
    bytes : bytes_of (after_all (progress_of g T k os) calls).outputs ≡ bytes_of os ++ joined (resampled_blocks (n house r) g reads)

  -- where a stage may stand, with these reads to come
  record Stands (g : Stage) (T k : ℕ) (os : List Float) (reads : List (List ℕ)) : Type 0 where
    there : Reached house r (progress_of g T k os)
    room : max_outputs ≤ length g.out
    room_to : length g.out ≤ max_call
    held : length g.held ≤ 1
    came : g.came ≡ ltb 0 T
    to_come : drop T xs ≡ samples_of (g.held ++ joined reads) ++ zeros

  -- the block that a call hands on, between those before it and those after it
  between : (g : Stage) (os input : List Float) (later : List ℕ)
      → bytes_of (os ++ take (tells g input).written (pulled g input).out) ++ later ≡ bytes_of os ++ (handed g input ++ later)
  between g os input later =
      let outs = take (tells g input).written (pulled g input).out in
      ap (λ (b : List ℕ). b ++ later) (bytes_append os outs) ∙ append_assoc (bytes_of os) (bytes_of outs) later

  -- the zeros
  last_call : (g : Stage) (T k : ℕ) (os : List Float) → Stands g T k os [] → Walked g T k os []
  last_call g T k os s =
      let input = closing g.came (n house r) in
      let z = closing_zeros g.came (n house r) in
      let many : length input ≡ z = length-replicate z nought in
      let few : z ≤ n house r / 2 = zeros_to g.came (n house r) in
      let none : samples_of (g.held ++ []) ≡ [] = ap samples_of (append-nil g.held) ∙ no_sample g.held s.held in
      let zeros-left : drop T xs ≡ zeros = s.to_come ∙ ap (λ (y : List Float). y ++ zeros) none in
      let all : T ≡ M house r =
      omega (
        arith,
        ap length zeros-left,
        length-drop T xs,
        length_closed nought (rate_for house r) (samples_of body),
        length-replicate (n house r / 2) nought,
        (moved house house_sane r begun_under (progress_of g T k os) s.there).consumed,
      ) in
      let next : take (length input) (drop T xs) ≡ input = rw (many, zeros-left) (take-replicate z (n house r / 2) nought few) in
      let e =
      one_call g T k os s.there s.room s.room_to input next (omega (arith, many, few, (house_length source target hs ht).1))
      (closing_room (length input) (length g.out) (omega (arith, many, few)) s.room) in
      let came : z ≡ closing_zeros (ltb 0 (M house r)) (n house r) = ap (λ (b : Bool). closing_zeros b (n house r)) (s.came ∙ ap (ltb 0) all) in
      record {
        calls = call_of g input ∷ [];
        follow = (follows g T k os s.there s.room s.room_to input next, tt);
        consumed = omega (arith, ap (λ (h : Progress). h.consumed) e, many, came, all);
        bytes =
            ap (λ (h : Progress). bytes_of h.outputs) e
            ∙ sym (append-nil (bytes_of (os ++ take (tells g input).written (pulled g input).out)))
            ∙ between g os input [];
      }

  -- and each read before them
  walk : (reads : List (List ℕ)) (g : Stage) (T k : ℕ) (os : List Float) → AllShort reads → Stands g T k os reads → Walked g T k os reads
  walk [] g T k os short s = last_call g T k os s
  walk (read ∷ reads) g T k os short s =
      let b = block g read in
      let input = samples_of b in
      let after-it = samples_of (odd_of b ++ joined reads) ++ zeros in
      let cut : drop T xs ≡ input ++ after-it =
      s.to_come
      ∙ ap (λ (y : List ℕ). samples_of y ++ zeros) (sym (append_assoc g.held read (joined reads)))
      ∙ ap (λ (y : List Float). y ++ zeros) (samples_cut b (joined reads))
      ∙ append_assoc input (samples_of (odd_of b ++ joined reads)) zeros in
      let next : take (length input) (drop T xs) ≡ input = rw cut (take-append_seam input after-it) in
      let small : length input ≤ 1024 = omega (arith, length_samples b, length-append g.held read, s.held, short.0) in
      let w = block_room (length input) (length g.out) small s.room in
      let e = one_call g T k os s.there s.room s.room_to input next (omega (arith, small)) w in
      let more =
      walk reads (fed g read) (T + length input) (k + (tells g input).written) (os ++ take (tells g input).written (pulled g input).out) short.1
      record {
        there = reaches g T k os s.there s.room s.room_to input next (omega (arith, small)) w;
        room = omega (arith, pulled_out g input, s.room);
        room_to = omega (arith, pulled_out g input, s.room_to);
        held = odd_length b;
        came = rw (s.came, came_more T (length b / 2), length_samples b);
        to_come = sym (drop-drop (length input) T xs) ∙ ap (drop (length input)) cut ∙ drop-append_seam input after-it;
      } in
      record {
        calls = call_of g input ∷ more.calls;
        follow = (follows g T k os s.there s.room s.room_to input next, subst (λ (h : Progress). AllFollow house xs h more.calls) (sym e) more.follow);
        consumed = starts_with (λ (h : Progress). (after_all h more.calls).consumed) e more.consumed;
        bytes =
            starts_with (λ (h : Progress). bytes_of (after_all h more.calls).outputs) e more.bytes
            ∙ between g os input (joined (resampled_blocks (n house r) (fed g read) reads));
      }

  -- ---- the whole

  -- without a sample there is no output
  no_total : M house r ≤ 0 → total house r ≡ 0
  no_total h =
      let z : M house r ≡ 0 = omega arith in
      total_is house r
      ∙ ap (λ (m : ℕ). upwards (m * den house r) (num house r)) z
      ∙ div-eq_of_lt {n = 0 * den house r + num house r - 1} (omega (arith, (rate_fit house house_sane r begun_under).num))

  -- with one, what is read is the recording's whole input
  input_is : 0 < M house r → xs ≡ closed_input source target (samples_of body)
  input_is some = rw (lt-ltb 0 (M house r) some)

  -- the file's bytes, cut in this way
  module _ (reads : List (List ℕ)) (short : AllShort reads) (cut : joined reads ≡ body) where
    walked : Walked first 0 0 [] reads
    walked =
        walk reads first 0 0 [] short
        record {
          there = rw begins (first_reached house house_sane r begun_under);
          room = long.out;
          room_to = long.out_to;
          held = omega arith;
          came = refl;
          to_come = rw cut;
        }

    -- the recording, with its calls
    abbrev played_recording : Recording
    played_recording = with_calls r walked.calls

    played_under : MadeUnder house played_recording
    played_under =
        record {
          source_in = hs;
          target_in = ht;
          history = mem_enough;
          coefficients = coefs_enough;
          new = begun_under.new;
          rate = begun_under.rate;
          calls = subst (λ (h : Progress). AllFollow house xs h walked.calls) begins walked.follow;
        }

    -- ---- its outputs are those of the whole file
    never_more_made : made house played_recording ≤ total house r
    never_more_made =
        let h = moved house house_sane played_recording played_under (finished played_recording) (reached house house_sane played_recording played_under) in
        omega (arith, never_more (rate_for house r) (rate_fit house house_sane r begun_under) (M house r) h, total_is house r)

    abbrev outs : List Float
    outs = (finished played_recording).outputs

    consumed_is : (finished played_recording).consumed ≡ M house r + closing_zeros (ltb 0 (M house r)) (n house r)
    consumed_is = ap (λ (h : Progress). (after_all h walked.calls).consumed) (sym begins) ∙ walked.consumed

    -- as many as `closed_total` tells: without a sample none
    many : made house played_recording ≡ total house r
    many = elim (below_or_not 0 (M house r)) [
      | inl some ↦ (count house house_sane played_recording played_under (consumed_is ∙ rw (lt-ltb 0 (M house r) some))).exactly
      | inr none ↦ omega (arith, never_more_made, no_total none)
    ]

    -- each of them is the stream's
    each : (k : ℕ) → k < total house r → at outs k ≡ get_or (resampled source target (samples_of body)) k nan
    each k h = elim (below_or_not 0 (M house r)) [
      | inl some ↦
          (let rate = rate_for house r in
          let weigh = weigh_of setting (table_of setting) in
          (outputs_of_a_recording house house_sane played_recording played_under).each k (omega (arith, many))
          ∙ ap (λ (j : ℕ). stream_output weigh nought rate xs j) (sym (zero-add k))
          ∙ sym (stream_output_at weigh nought rate xs nan 0 (total house r) k h)
          ∙ ap (λ (ys : List Float). get_or (stream_outputs weigh nought rate ys 0 (total house r)) k nan) (input_is some))
      | inr none ↦ absurd (omega (arith, no_total none))
    ]

    outputs_are : outs ≡ resampled source target (samples_of body)
    outputs_are =
        let a = (outputs_of_a_recording house house_sane played_recording played_under).many in
        let b = length_stream_outputs (weigh_of setting (table_of setting)) nought (rate_for house r) (closed_input source target (samples_of body)) 0 (total house r) in
        ext_get_or nan outs (resampled source target (samples_of body)) (a ∙ many ∙ sym b) (λ k h. each k (omega (arith, a, many)))

    pub handed_on : joined (resampled_blocks (n house r) first reads) ≡ bytes_of (resampled source target (samples_of body))
    handed_on =
        sym walked.bytes ∙ ap (λ (h : Progress). bytes_of (after_all h walked.calls).outputs) begins ∙ ap bytes_of outputs_are

    pub recording_of : (q : Recording) × OfTheFile source target (samples_of body) (resampled source target (samples_of body)) q
    recording_of =
        (played_recording, record { made_under = played_under; source_is = refl; target_is = refl; samples_are = refl; outputs_are = outputs_are })

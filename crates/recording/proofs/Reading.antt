-- How a recording goes on: what the next call may do, and that all comes to be read. Assumes nothing.
use mathlib.Core.Path.{◌≡◌, refl, ◌∙◌, ap}
use mathlib.Core.Bool.{Bool, true, false, cond, ◌||◌}
use mathlib.Core.Logic.{◌⊎◌, inl, inr}
use mathlib.Core.List.{List, [], ◌∷◌}
use Prim.Native.Nat.{ℕ, ◌+◌, ◌-◌, ◌*◌, ◌≤◌, ◌<◌, min}
use native.Mathlib.Omega.{arith}
use lib.Dec.{eqb, ltb}
use lib.Ieee.{Float}
use lib.ListN.{length, drop, length-take, length-drop}
use Rattle.std.specs.Prelude.{Err}
use Rattle.std.proofs.lemmas.Bool.{cases_lt}
use Rattle.math.specs.Numerals.{nought}
use Rattle.timeline.specs.Numbers.{Called, fresh, call}
use Rattle.timeline.specs.Samples.{Played}
use Rattle.timeline.specs.Recording.{call_then, one_call_more}
use Rattle.timeline.proofs.Turns.{Moved}
use Rattle.timeline.proofs.Count.{never_more, one_more_goes_on, one_more_reads, one_more_reads_its_own}
use Rattle.timeline.proofs.Streams.{length_closed}
use Rattle.timeline.proofs.Theorems.{numbers_of_a_call}
use Rattle.quality.specs.Quality.{Sane}
use Rattle.quality.specs.declared.QualityMapping.{QualityMapping}
use Rattle.state.specs.declared.ResamplerState.{ResamplerState}
use Rattle.judge.specs.Refusals.{max_call}
use Rattle.judge.specs.Verdicts.{accept, refuse_if}
use Rattle.judge.specs.declared.Refusal.TheVariants.{EmptyInput, TooLong}
use Rattle.process.specs.Process.{place_in}
use Rattle.resampler.specs.Answers.{Told, refused, by_verdict}
use Rattle.resampler.specs.Entries.{process_told}
use Rattle.pinned.proofs.Calls.{by_input, call_accepted}
use Rattle.pinned.proofs.Verdicts.{refused_by}
use Rattle.recording.specs.Recording.{Call, Recording, Progress, rate_for, whole_input, opened, after, after_all, finished, offered, Follows, AllFollow, MadeUnder}
use Rattle.recording.specs.Demand3.{num, den, M, to_read, AllRead, total, NextCall, OffersAll, GetsOn, AllGetOn}
use Rattle.recording.proofs.Reached.{weighing, done, Reached, offer, judged, refused_stays, refused_output, accepted_done, one_more_reached, first_reached, reached}
use Rattle.recording.proofs.Counts.{total_is, rate_fit, moved}

-- ---- one call more
module _ (row : QualityMapping) (sane : Sane row) (r : Recording) (m : MadeUnder row r) (h : Progress) (g : Reached row r h)
    (c : Call) (p : Follows row (whole_input row r) h c) where
  abbrev so_far : Moved (rate_for row r) 0 (to_read row r) (fresh (rate_for row r)) (done h).numbers
  so_far = moved row sane r m h g

  -- it is offered as many samples as are asked for and left
  input_length : length (offered (whole_input row r) h c) ≡ min c.offers (to_read row r - h.consumed)
  input_length =
      length-take c.offers (drop h.consumed (whole_input row r))
      ∙ ap (min c.offers)
      (length-drop h.consumed (whole_input row r) ∙ ap (λ (k : ℕ). k - h.consumed) (length_closed nought (rate_for row r) r.samples))

  -- where it is accepted, its numbers are those of one offer more
  numbers_after : judged row r h c ≡ accept
      → (done (after h c)).numbers ≡ one_call_more (rate_for row r) (to_read row r) (offer row r h c) (done h).numbers
  numbers_after v =
      ap (λ (d : Played Called Float). d.numbers) (accepted_done row sane r h g c v p)
      ∙ ap (call_then (done h).numbers)
      (numbers_of_a_call (weighing row r) (rate_for row r) h.state.magic_samples (offered (whole_input row r) h c) (length c.out) (place_in h.state) h.mem
      ∙ ap (λ (inn : ℕ). call (rate_for row r) h.state.magic_samples inn (length c.out) (place_in h.state)) input_length)

  -- it is accepted where a sample is left and offered, within what one call takes
  is_accepted : 0 < c.offers → h.consumed < to_read row r → min c.offers (to_read row r - h.consumed) ≤ max_call → length c.out ≤ max_call
      → judged row r h c ≡ accept
  is_accepted some left offers_to room_to =
      call_accepted row h.state (length h.mem) (length h.coefs) g.fits _ _ (omega (arith, input_length)) (omega (arith, input_length)) room_to

  -- without a sample it is refused
  empty_refused : length (offered (whole_input row r) h c) ≡ 0 → judged row r h c ≡ Err EmptyInput
  empty_refused e = by_input row h.state (length h.mem) (length h.coefs) g.fits _ (length c.out) ∙ rw e

  -- a sample is read or an output is made
  gets_on : GetsOn c → h.consumed < to_read row r → h.consumed + h.written < (after h c).consumed + (after h c).written
  gets_on k left =
      let e = numbers_after (is_accepted k.some left (omega (arith, k.offers_to)) k.room_to) in
      let more =
      one_more_goes_on (rate_for row r) (rate_fit row sane r m) (to_read row r) (done h).numbers (offer row r h c) (omega (arith, so_far.magic)) left k.some (omega (arith, k.room)) in
      omega (arith, more, ap (λ (d : Called). d.turn.consumed) e, ap (λ (d : Called). d.turn.written) e)

  -- everything that is left is read
  reads_all : to_read row r ≤ h.consumed + c.offers → to_read row r ≤ h.consumed + max_call
      → total row r < h.written + length c.out → length c.out ≤ max_call → (after h c).consumed ≡ to_read row r
  reads_all all left_to room room_to = elim (cases_lt h.consumed (to_read row r)) [
    | inl left ↦
        (ap (λ (d : Called). d.turn.consumed) (numbers_after (is_accepted (omega arith) left (omega arith) room_to))
        ∙ one_more_reads (rate_for row r) (rate_fit row sane r m) (M row r) (done h).numbers (offer row r h c) so_far all (rw (← total_is row r) room))
    | inr none ↦ omega (arith, (moved row sane r m (after h c) (one_more_reached row sane r h g c p)).consumed)
  ]

  -- all that it is offered is read, where that is no more than is left, with more room than the outputs that it can lead to
  pub reads_its_own : h.consumed + c.offers ≤ to_read row r → c.offers ≤ max_call → length c.out ≤ max_call
      → den row r * c.offers + num row r ≤ length c.out * num row r → (after h c).consumed ≡ h.consumed + c.offers
  reads_its_own left offers_to room_to room = elim (cases_lt 0 c.offers) [
    | inl some ↦
        (ap (λ (d : Called). d.turn.consumed) (numbers_after (is_accepted some (omega arith) (omega arith) room_to))
        ∙ one_more_reads_its_own (rate_for row r) (rate_fit row sane r m) (done h).numbers (offer row r h c) so_far left room)
    | inr none ↦
        (let stays = refused_stays row r h c p EmptyInput (empty_refused (omega (arith, input_length))) in
        ap (λ (d : Progress). d.consumed) stays ∙ omega arith)
  ]

-- ---- the next call

-- the number of each verdict that its input and its room can lead to
number_by : (t u : Bool) (s : ResamplerState) (done : Told) → done.number ≡ 0
    → (by_verdict (refuse_if t EmptyInput (refuse_if u TooLong accept)) (λ f. refused f s) done).number ≡ cond t 4 (cond u 5 0)
number_by true u s done e = refl
number_by false true s done e = refl
number_by false false s done e = e

module _ (row : QualityMapping) (sane : Sane row) (r : Recording) (m : MadeUnder row r) (c : Call) (p : Follows row (whole_input row r) (finished r) c) where
  -- why it may be refused, and that it then changes nothing
  pub next_call : NextCall row r c
  unfolding process_told
  next_call =
      let h = finished r in
      let g = reached row sane r m in
      let inn = length (offered (whole_input row r) h c) in
      record {
        number =
            rw (p.tells, by_input row h.state (length h.mem) (length h.coefs) g.fits inn (length c.out))
            (number_by (eqb inn 0) (ltb max_call inn || ltb max_call (length c.out)) h.state _ refl);
        refused =
            λ e. let w = refused_by (judged row r h c) h.state _ _ _ (rw p.tells at e) in
            (refused_stays row r h c p w.0 w.1, refused_output row r h c p w.0 w.1);
      }

  -- with everything offered and room enough it reads everything
  pub reads_to_the_end : OffersAll row r c → (after (finished r) c).consumed ≡ to_read row r
  reads_to_the_end o = reads_all row sane r m (finished r) (reached row sane r m) c p o.all o.left_to (omega (arith, o.room)) o.room_to

-- ---- a list of calls that get on

-- what is read stays read
consumed_grows : (h : Progress) (cs : List Call) → h.consumed ≤ (after_all h cs).consumed
consumed_grows h [] = omega arith
consumed_grows h (c ∷ cs) = omega (arith, consumed_grows (after h c) cs)

module _ (row : QualityMapping) (sane : Sane row) (r : Recording) (m : MadeUnder row r) where
  -- all is read, or each call has read a sample or made an output
  all_get_on : (h : Progress) (cs : List Call) → Reached row r h → AllFollow row (whole_input row r) h cs → AllGetOn cs
      → (to_read row r ≤ (after_all h cs).consumed) ⊎ (h.consumed + h.written + length cs ≤ (after_all h cs).consumed + (after_all h cs).written)
  all_get_on h [] g f k = inr (omega arith)
  all_get_on h (c ∷ cs) g f k = elim (cases_lt h.consumed (to_read row r)) [
    | inl left ↦ elim (all_get_on (after h c) cs (one_more_reached row sane r h g c f.0) f.1 k.1) [
      | inl all ↦ inl all
      | inr some ↦ inr (omega (arith, gets_on row sane r m h g c f.0 k.0 left))
    ]
    | inr none ↦ inl (omega (arith, consumed_grows h (c ∷ cs)))
  ]

  -- there are no more outputs than the total, so enough calls have read all
  pub read_at_last : AllGetOn r.calls → to_read row r + total row r ≤ length r.calls → AllRead row r
  read_at_last k enough =
      let a = moved row sane r m (finished r) (reached row sane r m) in
      elim (all_get_on (opened r) r.calls (first_reached row sane r m) m.calls k) [
        | inl all ↦ omega (arith, a.consumed)
        | inr some ↦ omega (arith, a.consumed, never_more (rate_for row r) (rate_fit row sane r m) (M row r) a, total_is row r)
      ]

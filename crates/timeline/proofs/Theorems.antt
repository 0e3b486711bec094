-- What a reader is meant to see, of every rate that is fit, every type of samples and every way to weigh a window: first one call, then a
-- recording, in the order of demand 3. Each proof here only puts together laws of the other files. Assumes nothing.
use mathlib.Core.Path.{◌≡◌, sym, ◌∙◌, ap}
use mathlib.Core.List.{List, [], ◌∷◌, ◌++◌}
use Prim.Native.Nat.{ℕ, ◌+◌, ◌-◌, ◌*◌, ◌/◌, ◌≤◌, ◌<◌}
use native.Mathlib.Nat.{zero-add}
use native.Mathlib.Omega.{arith}
use lib.ListN.{length, take, get_or}
use Rattle.timeline.specs.Numbers.{Rate, Place, Called, Fit, call}
use Rattle.timeline.specs.Samples.{outputs, play_call}
use Rattle.timeline.specs.Recording.{Offer, start, recorded, closed, recording, closed_recording, stream_output, stream_outputs}
use Rattle.timeline.specs.Laws.{CallLaw, Law, KeptFrom, AllRead, Ceiling, upwards, DifferWithin, Misses}
use Rattle.timeline.proofs.Law.{call_law, recording_law, recorded_moves}
use Rattle.timeline.proofs.Bound.{call_position}
use Rattle.timeline.proofs.Count.{closed_count, ceiling_is, one_more_reads, calls_last}
use Rattle.timeline.proofs.History.{call_keeps}
use Rattle.timeline.proofs.Lines.{call_sounds}
use Rattle.timeline.proofs.SameNumbers.{call_numbers, call_length, calls_numbers}
use Rattle.timeline.proofs.Streams.{recording_sounds, recording_length, stream_output_at, output_misses, length_closed, closed_differ}

-- ONE CALL with any number of magic samples

module _ (r : Rate) (fit : Fit r) where
  -- it keeps within its input, its room and its magic samples, consumes input only when no magic samples are left, and moves the place by
  -- num den-ths for each output
  pub position_law : (m inn room : ℕ) (p : Place) → p.phase < r.den → CallLaw r m inn room p (call r m inn room p)
  position_law = call_law r fit

  -- where num/den is at most h, a position of at most h stays so; with magic samples it may even start that many above
  pub position_bound_lem : (h : ℕ) → r.num ≤ r.den * h → (m inn room : ℕ) (p : Place) → p.phase < r.den → p.position ≤ h + m
      → (call r m inn room p).turn.place.position ≤ h
  position_bound_lem = call_position r fit.den

module _ {A : Type 0} (weigh : ℕ → List A → A) (r : Rate) (m : ℕ) (s : List A) (room : ℕ) (p : Place) (mem : List A) where
  -- no sample decides a number
  pub numbers_of_a_call : (play_call weigh r m s room p mem).numbers ≡ call r m (length s) room p
  numbers_of_a_call = call_numbers weigh r m s room p mem

  -- there are as many outputs as the written count says
  pub length_of_a_call : length (play_call weigh r m s room p mem).out ≡ (call r m (length s) room p).turn.written
  length_of_a_call = call_length weigh r m s room p mem ∙ ap (λ (c : Called). c.turn.written) numbers_of_a_call

  module _ (fit : Fit r) (long : r.alloc ≤ length mem) (holds : r.n - 1 + m ≤ r.alloc) where
    -- the history keeps its length and what lies past alloc
    pub history_of_a_call : KeptFrom r.alloc mem (play_call weigh r m s room p mem).mem
    history_of_a_call = call_keeps r weigh fit m s room p mem long holds

    -- the outputs are those of one long history, in which the past, the magic samples and all of the input stand side by side
    pub outputs_of_a_call : (play_call weigh r m s room p mem).out
        ≡ outputs weigh r (take (r.n - 1 + m) mem ++ s) (call r m (length s) room p).turn.written p
    outputs_of_a_call =
        call_sounds weigh r fit m s room p mem long holds
        ∙ ap (λ (c : Called). outputs weigh r (take (r.n - 1 + m) mem ++ s) c.turn.written p) numbers_of_a_call

-- A RECORDING, however it is cut into calls

-- the position law from a fresh state on
pub law_of_a_recording : (r : Rate) → Fit r → (len : ℕ) (os : List Offer) → Law r (recorded r len os).turn
law_of_a_recording = recording_law

module _ {A : Type 0} (weigh : ℕ → List A → A) (silence : A) (r : Rate) (excess xs : List A) (os : List Offer) where
  -- no sample decides a number
  pub numbers_of_a_recording : (recording weigh silence r excess xs os).numbers ≡ recorded r (length xs) os
  numbers_of_a_recording = calls_numbers weigh r xs os _

  module _ (fit : Fit r) where
    -- there are as many outputs as the written counts say
    pub length_of_a_recording : length (recording weigh silence r excess xs os).out ≡ (recorded r (length xs) os).turn.written
    length_of_a_recording = recording_length weigh silence r xs fit excess os ∙ ap (λ (c : Called). c.turn.written) numbers_of_a_recording

    -- the outputs are the stream's, in order
    pub outputs_of_a_recording : (recording weigh silence r excess xs os).out
        ≡ stream_outputs weigh silence r xs 0 (length (recording weigh silence r excess xs os).out)
    outputs_of_a_recording =
        recording_sounds weigh silence r xs fit excess os
        ∙ ap (stream_outputs weigh silence r xs 0) (sym (recording_length weigh silence r xs fit excess os))

    -- output k is output k of the stream (z is what get_or answers past the end)
    pub output_of_a_recording : (z : A) (k : ℕ) → k < length (recording weigh silence r excess xs os).out
        → get_or (recording weigh silence r excess xs os).out k z ≡ stream_output weigh silence r xs k
    output_of_a_recording z k h =
        ap (λ (l : List A). get_or l k z) outputs_of_a_recording
        ∙ stream_output_at weigh silence r xs z 0 (length (recording weigh silence r excess xs os).out) k h
        ∙ ap (stream_output weigh silence r xs) (zero-add k)

module _ {A : Type 0} (weigh : ℕ → List A → A) (silence : A) (r : Rate) (fit : Fit r) where
  module _ (excess xs : List A) (os : List Offer) (all : AllRead (closed silence r xs) (closed_recording weigh silence r excess xs os)) where
    -- once a closed recording is read to its end there are exactly M*den/num outputs, rounded up. That room was left is not asked
    pub least_closed_count : Ceiling (length xs * r.den) r.num (length (closed_recording weigh silence r excess xs os).out)
    least_closed_count =
        let len = length_closed silence r xs in
        let numbers = numbers_of_a_recording weigh silence r excess (closed silence r xs) os in
        rw (length_of_a_recording weigh silence r excess (closed silence r xs) os fit, len)
        (closed_count r fit (length xs) os
        (ap (λ (k : ℕ). (recorded r k os).turn.consumed) (sym len) ∙ sym (ap (λ (c : Called). c.turn.consumed) numbers) ∙ all ∙ len))

    -- the same as a quotient
    pub closed_count_is : length (closed_recording weigh silence r excess xs os).out ≡ upwards (length xs * r.den) r.num
    closed_count_is = ceiling_is (length xs * r.den) _ fit.num least_closed_count

  -- every closed recording can be read to its end: one call more that is offered all of it, with more room than the count, does so
  pub reads_to_the_end : (excess xs : List A) (os : List Offer) (o : Offer)
      → length xs + r.n / 2 ≤ o.samples → upwards (length xs * r.den) r.num < o.room
      → AllRead (closed silence r xs) (closed_recording weigh silence r excess xs (os ++ (o ∷ [])))
  reads_to_the_end excess xs os o s k =
      let len = length xs + r.n / 2 in
      ap (λ (c : Called). c.turn.consumed)
      (numbers_of_a_recording weigh silence r excess (closed silence r xs) (os ++ (o ∷ []))
      ∙ ap (λ (l : ℕ). recorded r l (os ++ (o ∷ []))) (length_closed silence r xs)
      ∙ calls_last r len os o (start r))
      ∙ one_more_reads r fit (length xs) (recorded r len os) o (recorded_moves r fit len os) (omega arith) (omega arith)
      ∙ sym (length_closed silence r xs)

  -- two cuttings of a closed recording that are read to the end give the same outputs
  pub cutting_is_free : (excess excess' xs : List A) (os ps : List Offer)
      → AllRead (closed silence r xs) (closed_recording weigh silence r excess xs os)
      → AllRead (closed silence r xs) (closed_recording weigh silence r excess' xs ps)
      → (closed_recording weigh silence r excess xs os).out ≡ (closed_recording weigh silence r excess' xs ps).out
  cutting_is_free excess excess' xs os ps g h =
      outputs_of_a_recording weigh silence r excess (closed silence r xs) os fit
      ∙ ap (stream_outputs weigh silence r (closed silence r xs) 0) (closed_count_is excess xs os g ∙ sym (closed_count_is excess' xs ps h))
      ∙ sym (outputs_of_a_recording weigh silence r excess' (closed silence r xs) ps fit)

  -- damage stays local: of two closed recordings that differ at most in samples a to b-1, each cut in its own way, every output that both
  -- have and whose window misses those samples is the same
  pub damage_stays_local : (a b : ℕ) (xs ys : List A) → DifferWithin a b xs ys
      → (excess excess' : List A) (os ps : List Offer) (z : A) (k : ℕ) → Misses r a b k
      → k < length (closed_recording weigh silence r excess xs os).out → k < length (closed_recording weigh silence r excess' ys ps).out
      → get_or (closed_recording weigh silence r excess xs os).out k z ≡ get_or (closed_recording weigh silence r excess' ys ps).out k z
  damage_stays_local a b xs ys w excess excess' os ps z k m h g =
      output_of_a_recording weigh silence r excess (closed silence r xs) os fit z k h
      ∙ output_misses silence r fit weigh a b k (closed silence r xs) (closed silence r ys) (closed_differ silence r a b xs ys w) m
      ∙ sym (output_of_a_recording weigh silence r excess' (closed silence r ys) ps fit z k g)

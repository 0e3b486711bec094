-- The stream of a recording: its outputs in order are the line's from a fresh place on, and an output whose window misses some samples does
-- not depend on them. Assumes nothing.
use mathlib.Core.Path.{◌≡◌, refl, sym, ◌∙◌, ap, ap₂}
use mathlib.Core.Logic.{inl, inr}
use mathlib.Core.List.{List, ◌∷◌, ◌++◌}
use Prim.Native.Nat.{ℕ, zero, suc, ◌+◌, ◌-◌, ◌*◌, ◌/◌, ◌%◌, ◌≤◌, ◌<◌}
use native.Mathlib.Nat.{add-zero, zero-add, suc-add, add-suc, not-suc-le-zero, le_of_suc-le-suc}
use native.Mathlib.Omega.{arith}
use lib.ListN.{length, take, drop, replicate, get_or, length-append, length-replicate}
use lib.Seq.{drop-drop, take-append-add, drop-append-add, take-append-le, take_at, drop_at}
use Rattle.timeline.specs.Numbers.{Rate, Place, Fit, fresh, ahead}
use Rattle.timeline.specs.Samples.{outputs}
use Rattle.timeline.specs.Recording.{Offer, stream, closed, stream_position, stream_output, stream_outputs, recording}
use Rattle.timeline.specs.Laws.{DifferWithin, Misses}
use Rattle.timeline.proofs.Places.{ahead_last, ahead_is}
use Rattle.timeline.proofs.Parts.{same_window, take-replicate, take-append, drop-append}
use Rattle.timeline.proofs.Cuttings.{Plays, begins, calls_play}

-- where output k stands
pub ahead_fresh : (r : Rate) → Fit r → (k : ℕ) → ahead r k (fresh r) ≡ record { position = stream_position r k; phase = k * r.num % r.den }
ahead_fresh r fit k = ahead_is r fit.den k (fresh r) fit.den ∙ rw (zero-add (k * r.num))

module _ {A : Type 0} (silence : A) (r : Rate) where
  -- the stream below the silence and a
  before : (a : ℕ) (s : List A) → take (r.n - 1 + a) (stream silence r s) ≡ replicate (r.n - 1) silence ++ take a s
  before a s =
      ap (λ (k : ℕ). take (k + a) (stream silence r s)) (sym (length-replicate (r.n - 1) silence))
      ∙ take-append-add (replicate (r.n - 1) silence) s a

  -- the stream from sample b + c on
  after : (b c : ℕ) (s : List A) → drop (b + (r.n - 1) + c) (stream silence r s) ≡ drop c (drop b s)
  after b c s =
      let e : b + (r.n - 1) + c ≡ length (replicate (r.n - 1) silence) + (b + c) = omega (arith, length-replicate (r.n - 1) silence) in
      ap (λ (k : ℕ). drop k (stream silence r s)) e
      ∙ drop-append-add (replicate (r.n - 1) silence) s (b + c)
      ∙ sym (drop-drop c b s)

  module _ (fit : Fit r) where
    window_misses : (a b k : ℕ) (s t : List A) → DifferWithin a b s t → Misses r a b k
        → take r.n (drop (stream_position r k) (stream silence r s)) ≡ take r.n (drop (stream_position r k) (stream silence r t))
    window_misses a b k s t w (inl h) =
        same_window (r.n - 1 + a) r.n (stream_position r k) (stream silence r s) (stream silence r t) (omega (arith, fit.n))
        (before a s ∙ ap (λ (l : List A). replicate (r.n - 1) silence ++ l) w.early ∙ sym (before a t))
    window_misses a b k s t w (inr h) =
        let c = stream_position r k - (b + (r.n - 1)) in
        let e : stream_position r k ≡ b + (r.n - 1) + c = omega (arith, fit.n) in
        ap (λ (q : ℕ). take r.n (drop q (stream silence r s))) e
        ∙ ap (take r.n) (after b c s ∙ ap (drop c) w.late ∙ sym (after b c t))
        ∙ ap (λ (q : ℕ). take r.n (drop q (stream silence r t))) (sym e)

    pub output_misses : (weigh : ℕ → List A → A) (a b k : ℕ) (s t : List A) → DifferWithin a b s t → Misses r a b k
        → stream_output weigh silence r s k ≡ stream_output weigh silence r t k
    output_misses weigh a b k s t w m = ap (weigh _) (window_misses a b k s t w m)

  pub length_closed : (xs : List A) → length (closed silence r xs) ≡ length xs + r.n / 2
  length_closed xs = length-append xs (replicate (r.n / 2) silence) ∙ ap (λ (k : ℕ). length xs + k) (length-replicate (r.n / 2) silence)

  -- recordings that differ within a..b-1 still do when they are closed
  pub closed_differ : (a b : ℕ) (xs ys : List A) → DifferWithin a b xs ys → DifferWithin a b (closed silence r xs) (closed silence r ys)
  closed_differ a b xs ys w = record {
    long = length-append xs z ∙ ap (λ (k : ℕ). k + length z) w.long ∙ sym (length-append ys z);
    early = take-append a xs z ∙ ap₂ (λ (l : List A) (k : ℕ). l ++ take (a - k) z) w.early w.long ∙ sym (take-append a ys z);
    late = drop-append b xs z ∙ ap₂ (λ (l : List A) (k : ℕ). l ++ drop (b - k) z) w.late w.long ∙ sym (drop-append b ys z);
  }
    where
      z : List A
      z = replicate (r.n / 2) silence

module _ {A : Type 0} (weigh : ℕ → List A → A) (silence : A) (r : Rate) (xs : List A) where
  pub length_stream_outputs : (k m : ℕ) → length (stream_outputs weigh silence r xs k m) ≡ m
  length_stream_outputs k zero = refl
  length_stream_outputs k (suc m) = ap suc (length_stream_outputs (suc k) m)

  pub stream_output_at : (z : A) (k m j : ℕ) → j < m
      → get_or (stream_outputs weigh silence r xs k m) j z ≡ stream_output weigh silence r xs (k + j)
  stream_output_at z k zero j h = absurd (not-suc-le-zero h)
  stream_output_at z k (suc m) zero h = rw (add-zero k)
  stream_output_at z k (suc m) (suc j) h = stream_output_at z (suc k) m j (le_of_suc-le-suc h) ∙ rw (suc-add k j, add-suc k j)

  module _ (fit : Fit r) where
    outputs_are : (m k : ℕ) → outputs weigh r (stream silence r xs) m (ahead r k (fresh r)) ≡ stream_outputs weigh silence r xs k m
    outputs_are zero k = refl
    outputs_are (suc m) k =
        ap₂ (λ (y : A) (ys : List A). y ∷ ys)
        (ap (λ (q : Place). weigh q.phase (take r.n (drop q.position (stream silence r xs)))) (ahead_fresh r fit k))
        (ap (outputs weigh r (stream silence r xs) m) (sym (ahead_last r k (fresh r))) ∙ outputs_are m (suc k))

    -- a recording plays its stream
    pub recording_plays : (excess : List A) (os : List Offer)
        → Plays weigh r fit 0 (fresh r) xs (stream silence r xs) (replicate r.alloc silence ++ excess) (recording weigh silence r excess xs os)
    recording_plays excess os =
        let front = length-replicate (r.n - 1) silence in
        let all = length-replicate r.alloc silence in
        let mem = replicate r.alloc silence ++ excess in
        let sized : r.alloc ≤ length mem = omega (arith, all, length-append (replicate r.alloc silence) excess) in
        let past : drop (r.n - 1 + 0) (stream silence r xs) ≡ xs =
        rw (add-zero (r.n - 1)) (drop_at (replicate (r.n - 1) silence) xs (r.n - 1) front) in
        let quiet : take (r.n - 1 + 0) mem ≡ take (r.n - 1 + 0) (stream silence r xs) =
        rw (add-zero (r.n - 1))
        (take-append-le (r.n - 1) (replicate r.alloc silence) excess (omega (arith, fit.alloc))
        ∙ take-replicate (r.n - 1) r.alloc silence (omega (arith, fit.alloc))
        ∙ sym (take_at (replicate (r.n - 1) silence) xs (r.n - 1) front)) in
        calls_play weigh r fit 0 (fresh r) xs (stream silence r xs) mem sized (omega (arith, fit.alloc)) past os _
        (begins weigh r fit 0 (fresh r) xs (stream silence r xs) mem sized (omega (arith, fit.alloc)) past quiet)

    pub recording_sounds : (excess : List A) (os : List Offer)
        → (recording weigh silence r excess xs os).out
        ≡ stream_outputs weigh silence r xs 0 (recording weigh silence r excess xs os).numbers.turn.written
    recording_sounds excess os =
        (recording_plays excess os).tells.sound ∙ outputs_are (recording weigh silence r excess xs os).numbers.turn.written 0

    pub recording_length : (excess : List A) (os : List Offer)
        → length (recording weigh silence r excess xs os).out ≡ (recording weigh silence r excess xs os).numbers.turn.written
    recording_length excess os =
        ap length (recording_sounds excess os) ∙ length_stream_outputs 0 (recording weigh silence r excess xs os).numbers.turn.written

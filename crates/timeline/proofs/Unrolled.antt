-- A call and its rounds over the input, unrolled: while input and room remain there is one round over at most a chunk, and then the rest. No
-- statement for others names a number of rounds allowed, since each round consumes a sample or fills the room. Assumes nothing.
use mathlib.Core.Path.{◌≡◌, refl, sym, ◌∙◌, ap}
use mathlib.Core.Logic.{◌⊎◌, inl, inr}
use Prim.Native.Nat.{ℕ, zero, suc, ◌-◌, ◌≤◌, ◌<◌, min}
use mathlib.Core.Bool.{true, false, true≢false, false≢true, or-true, and-false}
use lib.Dec.{ltb}
use native.Mathlib.Nat.{add_assoc, add-zero, zero-add, sub-zero, not-suc-le-zero, zero-lt-suc}
use native.Mathlib.Omega.{arith}
use mathlib.Core.List.{List, [], ◌∷◌, append_assoc, append-nil}
use lib.ListN.{length, drop, length-drop}
use borrow.Author.Tests.{lt-ltb}
use Rattle.timeline.specs.Numbers.{Rate, Place, Turn, Called, Fit, chunk, made, round, rounds_up_to, rounds, still, and_then, call, runs}
use Rattle.timeline.specs.Samples.{Played, unplayed, play_then, play_chunk, play_rounds_up_to, play_rounds, play_magic, play_call}
use Rattle.timeline.specs.Recording.{call_then}
use Rattle.timeline.proofs.Places.{below_or_not, made_ends}
use Rattle.timeline.proofs.Turns.{plain}

pub then_assoc : (a b c : Turn) → and_then a (and_then b c) ≡ and_then (and_then a b) c
then_assoc a b c = rw (add_assoc a.consumed, add_assoc a.written)

pub then_still : (a : Turn) → and_then a (still a.place) ≡ a
then_still a = rw (add-zero a.consumed, add-zero a.written)

pub still_then : (p : Place) (a : Turn) → and_then (still p) a ≡ a
still_then p a = rw (zero-add a.consumed, zero-add a.written)

no_room : (r : Rate) (most inn : ℕ) (p : Place) → rounds_up_to most r inn 0 p ≡ still p
no_room r zero inn p = refl
no_room r (suc most) zero p = refl
no_room r (suc most) (suc inn) p = refl

pub rounds_end : (r : Rate) (inn room : ℕ) (p : Place) → (inn ≡ 0) ⊎ (room ≡ 0) → rounds r inn room p ≡ still p
rounds_end r inn room p (inl e) = rw e
rounds_end r inn room p (inr e) = rw e (no_room r inn inn p)

-- a round over samples consumes one, or fills the room
pub round_does : (r : Rate) (i room : ℕ) (p : Place) → 0 < i → (0 < (round r i room p).consumed) ⊎ (room - (round r i room p).written ≡ 0)
round_does r i room p h =
    elim (below_or_not (made r i room p) room) [
      | inl l ↦ inl (omega (arith, made_ends r i room p l))
      | inr g ↦ inr (omega arith)
    ]

module _ (r : Rate) (fit : Fit r) where
  -- as many rounds as there are samples are as good as more
  enough_rounds : (most more inn room : ℕ) (p : Place) → inn ≤ most → inn ≤ more
      → rounds_up_to most r inn room p ≡ rounds_up_to more r inn room p
  enough_rounds zero zero inn room p f g = refl
  enough_rounds zero (suc more) zero room p f g = refl
  enough_rounds zero (suc more) (suc inn) room p f g = absurd (not-suc-le-zero f)
  enough_rounds (suc most) zero zero room p f g = refl
  enough_rounds (suc most) zero (suc inn) room p f g = absurd (not-suc-le-zero g)
  enough_rounds (suc most) (suc more) zero room p f g = refl
  enough_rounds (suc most) (suc more) (suc inn) zero p f g = refl
  enough_rounds (suc most) (suc more) (suc inn) (suc room) p f g =
      let i = min (suc inn) (chunk r) in
      let t = round r i (suc room) p in
      ap (and_then t)
      (elim (round_does r i (suc room) p (omega (arith, fit.alloc))) [
        | inl l ↦ enough_rounds most more (suc inn - t.consumed) (suc room - t.written) t.place (omega arith) (omega arith)
        | inr e ↦ rw e (no_room r most (suc inn - t.consumed) t.place ∙ sym (no_room r more (suc inn - t.consumed) t.place))
      ])

  pub rounds_go_on : (inn room : ℕ) (p : Place) → 0 < inn → 0 < room
      → rounds r inn room p
      ≡ (let t = round r (min inn (chunk r)) room p in and_then t (rounds r (inn - t.consumed) (room - t.written) t.place))
  rounds_go_on zero room p h k = absurd (not-suc-le-zero h)
  rounds_go_on (suc inn) zero p h k = absurd (not-suc-le-zero k)
  rounds_go_on (suc inn) (suc room) p h k =
      let i = min (suc inn) (chunk r) in
      let t = round r i (suc room) p in
      ap (and_then t)
      (elim (round_does r i (suc room) p (omega (arith, fit.alloc))) [
        | inl l ↦ enough_rounds inn (suc inn - t.consumed) (suc inn - t.consumed) (suc room - t.written) t.place (omega arith) (omega arith)
        | inr e ↦ rw e (no_room r inn (suc inn - t.consumed) t.place ∙ sym (no_room r (suc inn - t.consumed) (suc inn - t.consumed) t.place))
      ])

-- only a call with magic samples, or with input and room, runs a round
pub runs_when : (m inn room : ℕ) → runs m inn room ≡ true → (0 < m) ⊎ ((0 < inn) × (0 < room))
runs_when (suc m) inn room e = inl (zero-lt-suc m)
runs_when zero zero room e = absurd (false≢true e)
runs_when zero (suc inn) zero e = absurd (false≢true (sym (and-false (ltb 0 (suc inn))) ∙ e))
runs_when zero (suc inn) (suc room) e = inr (zero-lt-suc inn, zero-lt-suc room)

-- and each of them does
pub runs_over_magic : (m inn room : ℕ) → 0 < m → runs m inn room ≡ true
runs_over_magic m inn room h = rw (lt-ltb 0 m h)

pub runs_over_input : (m inn room : ℕ) → 0 < inn → 0 < room → runs m inn room ≡ true
runs_over_input m inn room h k = rw (lt-ltb 0 inn h, lt-ltb 0 room k) (or-true (ltb 0 m))

no_input_or_room : (inn room : ℕ) → runs 0 inn room ≡ false → (inn ≡ 0) ⊎ (room ≡ 0)
no_input_or_room zero room e = inl refl
no_input_or_room (suc inn) zero e = inr refl
no_input_or_room (suc inn) (suc room) e =
    absurd (true≢false (sym (runs_over_input 0 (suc inn) (suc room) (zero-lt-suc inn) (zero-lt-suc room)) ∙ e))

-- without magic samples a call is its rounds over the input
pub call_plain : (r : Rate) (inn room : ℕ) (p : Place) → call r 0 inn room p ≡ plain (rounds r inn room p)
call_plain r inn room p = rw (sub-zero room) (ap plain (still_then p (rounds r inn room p)))

-- a call that runs no round does nothing
pub no_round : (r : Rate) (m inn room : ℕ) (p : Place) → runs m inn room ≡ false
    → call r m inn room p ≡ record { turn = still p; magic = m }
no_round r zero inn room p e = call_plain r inn room p ∙ ap plain (rounds_end r inn room p (no_input_or_room inn room e))
no_round r (suc m) inn room p e = absurd (true≢false (sym (runs_over_magic (suc m) inn room (zero-lt-suc m)) ∙ e))

-- the same on samples
module _ {A : Type 0} where
  -- what leaves no magic samples
  abbrev pub plainly : Played Turn A → Played Called A
  plainly h = record { numbers = plain h.numbers; out = h.out; mem = h.mem }

  pub play_assoc : (a b c : Played Turn A) → play_then and_then a (play_then and_then b c) ≡ play_then and_then (play_then and_then a b) c
  play_assoc a b c = λ i. record {
    numbers = then_assoc a.numbers b.numbers c.numbers i;
    out = sym (append_assoc a.out b.out c.out) i;
    mem = c.mem;
  }

  pub play_unplayed : (a : Played Turn A) → play_then and_then a (unplayed (still a.numbers.place) a.mem) ≡ a
  play_unplayed a = λ i. record { numbers = then_still a.numbers i; out = append-nil a.out i; mem = a.mem }

  module _ (weigh : ℕ → List A → A) (r : Rate) where
    play_no_room : (most : ℕ) (s : List A) (p : Place) (mem : List A) → play_rounds_up_to weigh most r s 0 p mem ≡ unplayed (still p) mem
    play_no_room zero s p mem = refl
    play_no_room (suc most) [] p mem = refl
    play_no_room (suc most) (x ∷ xs) p mem = refl

    pub play_rounds_end : (s : List A) (room : ℕ) (p : Place) (mem : List A) → (length s ≡ 0) ⊎ (room ≡ 0)
        → play_rounds weigh r s room p mem ≡ unplayed (still p) mem
    play_rounds_end s room p mem (inl e) = rw e
    play_rounds_end s room p mem (inr e) = rw e (play_no_room (length s) s p mem)

    module _ (fit : Fit r) where
      enough_played : (most more : ℕ) (s : List A) (room : ℕ) (p : Place) (mem : List A) → length s ≤ most → length s ≤ more
          → play_rounds_up_to weigh most r s room p mem ≡ play_rounds_up_to weigh more r s room p mem
      enough_played zero zero s room p mem f g = refl
      enough_played zero (suc more) [] room p mem f g = refl
      enough_played zero (suc more) (x ∷ xs) room p mem f g = absurd (not-suc-le-zero f)
      enough_played (suc most) zero [] room p mem f g = refl
      enough_played (suc most) zero (x ∷ xs) room p mem f g = absurd (not-suc-le-zero g)
      enough_played (suc most) (suc more) [] room p mem f g = refl
      enough_played (suc most) (suc more) (x ∷ xs) zero p mem f g = refl
      enough_played (suc most) (suc more) (x ∷ xs) (suc room) p mem f g =
          let h = play_chunk weigh r (x ∷ xs) (suc room) p mem in
          let s = drop h.numbers.consumed (x ∷ xs) in
          let l : length s ≡ length (x ∷ xs) - h.numbers.consumed = length-drop h.numbers.consumed (x ∷ xs) in
          ap (play_then and_then h)
          (elim (round_does r (min (length (x ∷ xs)) (chunk r)) (suc room) p (omega (arith, fit.alloc))) [
            | inl w ↦ enough_played most more s (suc room - h.numbers.written) h.numbers.place h.mem (omega arith) (omega arith)
            | inr e ↦ rw e (play_no_room most s h.numbers.place h.mem ∙ sym (play_no_room more s h.numbers.place h.mem))
          ])

      pub play_rounds_go_on : (s : List A) (room : ℕ) (p : Place) (mem : List A) → 0 < length s → 0 < room
          → play_rounds weigh r s room p mem
          ≡ (let h = play_chunk weigh r s room p mem in
          play_then and_then h (play_rounds weigh r (drop h.numbers.consumed s) (room - h.numbers.written) h.numbers.place h.mem))
      play_rounds_go_on [] room p mem l k = absurd (not-suc-le-zero l)
      play_rounds_go_on (x ∷ xs) zero p mem l k = absurd (not-suc-le-zero k)
      play_rounds_go_on (x ∷ xs) (suc room) p mem z k =
          let h = play_chunk weigh r (x ∷ xs) (suc room) p mem in
          let s = drop h.numbers.consumed (x ∷ xs) in
          let l : length s ≡ length (x ∷ xs) - h.numbers.consumed = length-drop h.numbers.consumed (x ∷ xs) in
          ap (play_then and_then h)
          (elim (round_does r (min (length (x ∷ xs)) (chunk r)) (suc room) p (omega (arith, fit.alloc))) [
            | inl w ↦ enough_played (length xs) (length s) s (suc room - h.numbers.written) h.numbers.place h.mem (omega arith) (omega arith)
            | inr e ↦ rw e (play_no_room (length xs) s h.numbers.place h.mem ∙ sym (play_no_room (length s) s h.numbers.place h.mem))
          ])

    pub play_call_left : (m : ℕ) (s : List A) (room left : ℕ) (p : Place) (mem : List A)
        → (play_magic weigh r m room p mem).numbers.magic ≡ suc left
        → play_call weigh r m s room p mem ≡ play_magic weigh r m room p mem
    play_call_left m s room left p mem e = rw (e, play_call)

    pub play_call_spent : (m : ℕ) (s : List A) (room : ℕ) (p : Place) (mem : List A) → (play_magic weigh r m room p mem).numbers.magic ≡ 0
        → play_call weigh r m s room p mem
        ≡ (let h = play_magic weigh r m room p mem in
        play_then call_then h (plainly (play_rounds weigh r s (room - h.numbers.turn.written) h.numbers.turn.place h.mem)))
    play_call_spent m s room p mem e = rw (e, play_call)

    -- without magic samples a call is its rounds over the input
    pub play_call_plain : (s : List A) (room : ℕ) (p : Place) (mem : List A)
        → play_call weigh r 0 s room p mem ≡ plainly (play_rounds weigh r s room p mem)
    play_call_plain s room p mem =
        rw (sub-zero room)
        (ap (λ (t : Turn). record { numbers = plain t; out = (play_rounds weigh r s room p mem).out; mem = (play_rounds weigh r s room p mem).mem })
        (still_then p (play_rounds weigh r s room p mem).numbers))

    -- a call that runs no round does nothing
    pub play_no_round : (m : ℕ) (s : List A) (room : ℕ) (p : Place) (mem : List A) → runs m (length s) room ≡ false
        → play_call weigh r m s room p mem ≡ unplayed (record { turn = still p; magic = m }) mem
    play_no_round zero s room p mem e =
        play_call_plain s room p mem ∙ ap plainly (play_rounds_end s room p mem (no_input_or_room (length s) room e))
    play_no_round (suc m) s room p mem e = absurd (true≢false (sym (runs_over_magic (suc m) (length s) room (zero-lt-suc m)) ∙ e))

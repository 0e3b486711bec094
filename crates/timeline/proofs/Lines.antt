-- A round and a call play one line: the history's front, the magic samples, and then the input, as one list without cuts. The outputs are
-- that line's outputs in order, and the history holds the line's samples from where reading stands. Assumes nothing.
use mathlib.Core.Path.{◌≡◌, refl, sym, ◌∙◌, ap, ap₂}
use mathlib.Core.List.{List, [], ◌∷◌, ◌++◌, append-nil}
use Prim.Native.Nat.{ℕ, zero, suc, ◌+◌, ◌-◌, ◌≤◌, min}
use native.Mathlib.Nat.{zero-add, add-zero, add_comm, sub-zero}
use native.Mathlib.Omega.{arith}
use lib.ListN.{length, take, drop, length-drop}
use lib.Seq.{paste, take_at, drop_at, length-take-le, drop-drop, take-add, take-append-le, drop-append-le, take-paste, length-paste}
use Rattle.timeline.specs.Numbers.{Rate, Place, Turn, Called, Fit, chunk, round, still}
use Rattle.timeline.specs.Samples.{Played, unplayed, play_then, outputs, play_round, play_chunk, play_rounds_up_to, play_rounds, play_magic, play_call}
use Rattle.timeline.specs.Recording.{call_then}
use Rattle.timeline.proofs.Places.{made_below}
use Rattle.timeline.proofs.Turns.{Moved, plain, still_moves, round_moves, magic_moves, widen, joined}
use Rattle.timeline.proofs.Unrolled.{plainly, play_call_left, play_call_spent}
use Rattle.timeline.proofs.Parts.{same_window, take_front, drop_past}
use Rattle.timeline.proofs.Outputs.{outputs_add, outputs_from, outputs_same}
use Rattle.timeline.proofs.History.{magic_keeps, chunk_keeps}

module _ {A : Type 0} (weigh : ℕ → List A → A) (r : Rate) where
  -- from place p, over a line whose first n-1 entries are the past: the outputs are the line's, and the history holds the line from where
  -- reading stands
  pub record Tells (m inn : ℕ) (p : Place) (line : List A) (h : Played Called A) : Type 0 where
    pub moved : Moved r m inn p h.numbers
    pub sound : h.out ≡ outputs weigh r line h.numbers.turn.written p
    pub history : take (r.n - 1 + h.numbers.magic) h.mem
        ≡ take (r.n - 1 + h.numbers.magic) (drop (m - h.numbers.magic + h.numbers.turn.consumed) line)

  -- one after the other
  pub tell_both : {m inn : ℕ} {p : Place} {line : List A} (h g : Played Called A) → Tells m inn p line h
      → Tells h.numbers.magic (inn - h.numbers.turn.consumed) h.numbers.turn.place
      (drop (m - h.numbers.magic + h.numbers.turn.consumed) line) g
      → Tells m inn p line (play_then call_then h g)
  tell_both {m} {inn} {p} {line} h g a b = record {
    moved = joined r h.numbers g.numbers a.moved b.moved;
    sound =
        ap₂ (λ (x y : List A). x ++ y) a.sound
        (b.sound
        ∙ outputs_from weigh r line from g.numbers.turn.written h.numbers.turn.place
        ∙ ap (outputs weigh r line g.numbers.turn.written) a.moved.place)
        ∙ sym (outputs_add weigh r line h.numbers.turn.written g.numbers.turn.written p);
    history =
        b.history
        ∙ ap (take (r.n - 1 + g.numbers.magic))
        (drop-drop (h.numbers.magic - g.numbers.magic + g.numbers.turn.consumed) from line
        ∙ ap (λ (k : ℕ). drop k line) both);
  }
    where
      from : ℕ
      from = m - h.numbers.magic + h.numbers.turn.consumed

      both : from + (h.numbers.magic - g.numbers.magic + g.numbers.turn.consumed)
          ≡ m - g.numbers.magic + (h.numbers.turn.consumed + g.numbers.turn.consumed)
      both = omega (arith, a.moved.magic, b.moved.magic)

  tells_plainly : {inn : ℕ} {p : Place} {line : List A} (h : Played Turn A) → Moved r 0 inn p (plain h.numbers)
      → h.out ≡ outputs weigh r line h.numbers.written p → take (r.n - 1) h.mem ≡ take (r.n - 1) (drop h.numbers.consumed line)
      → Tells 0 inn p line (plainly h)
  tells_plainly h a o e = record { moved = a; sound = o; history = rw (add-zero (r.n - 1), zero-add h.numbers.consumed) e }

  unplayed_tells : (inn : ℕ) (p : Place) (line mem : List A) → take (r.n - 1) mem ≡ take (r.n - 1) line
      → Tells 0 inn p line (plainly (unplayed (still p) mem))
  unplayed_tells inn p line mem e = tells_plainly (unplayed (still p) mem) (still_moves r inn p) refl e

  -- a round over a history that holds the line's next i samples
  module _ (line mem : List A) (i room : ℕ) (p : Place) (long : r.n - 1 + i ≤ length mem)
      (same : take (r.n - 1 + i) mem ≡ take (r.n - 1 + i) line) where
    round_sound : (play_round weigh r i room p mem).out ≡ outputs weigh r line (round r i room p).written p
    round_sound =
        outputs_same weigh r mem line (r.n - 1 + i) (round r i room p).written p same
        (λ j l. omega (arith, made_below r i room p j l))

    round_front : take (r.n - 1) (play_round weigh r i room p mem).mem ≡ take (r.n - 1) (drop (round r i room p).consumed line)
    round_front =
        let c = (round r i room p).consumed in
        take_front mem (drop c mem) (r.n - 1) (simp length-drop (omega arith))
        ∙ same_window (r.n - 1 + i) (r.n - 1) c mem line (omega arith) same

  module _ (fit : Fit r) where
    -- the first round over the input: the chunk makes the history hold the line's next samples
    chunk_tells : (inn : ℕ) (line mem s rest : List A) (room : ℕ) (p : Place) → length s ≤ inn → r.alloc ≤ length mem
        → take (r.n - 1) mem ≡ take (r.n - 1) line → drop (r.n - 1) line ≡ s ++ rest
        → Tells 0 inn p line (plainly (play_chunk weigh r s room p mem))
    chunk_tells inn line mem s rest room p w h e f =
        let i = min (length s) (chunk r) in
        let fits : r.n - 1 + i ≤ length mem = omega (arith, fit.alloc) in
        let filled : take (r.n - 1 + i) (paste mem (r.n - 1) s i) ≡ take (r.n - 1 + i) line =
        take-paste mem (r.n - 1) s i (omega arith) (omega arith)
        ∙ ap₂ (λ (x y : List A). x ++ y) e (sym (take-append-le i s rest (omega arith)) ∙ ap (take i) (sym f))
        ∙ sym (take-add (r.n - 1) i line) in
        let long : r.n - 1 + i ≤ length (paste mem (r.n - 1) s i) = rw (length-paste mem (r.n - 1) s i fits (omega arith)) fits in
        tells_plainly (play_chunk weigh r s room p mem)
        (widen r (omega arith) (round_moves r i room p))
        (round_sound line (paste mem (r.n - 1) s i) i room p long filled)
        (round_front line (paste mem (r.n - 1) s i) i room p long filled)

    rounds_tell : (most inn : ℕ) (line mem s rest : List A) (room : ℕ) (p : Place) → length s ≤ inn → r.alloc ≤ length mem
        → take (r.n - 1) mem ≡ take (r.n - 1) line → drop (r.n - 1) line ≡ s ++ rest
        → Tells 0 inn p line (plainly (play_rounds_up_to weigh most r s room p mem))
    rounds_tell zero inn line mem s rest room p w h e f = unplayed_tells inn p line mem e
    rounds_tell (suc most) inn line mem [] rest room p w h e f = unplayed_tells inn p line mem e
    rounds_tell (suc most) inn line mem (x ∷ xs) rest zero p w h e f = unplayed_tells inn p line mem e
    rounds_tell (suc most) inn line mem (x ∷ xs) rest (suc room) p w h e f =
        let s = x ∷ xs in
        let g = play_chunk weigh r s (suc room) p mem in
        let c = g.numbers.consumed in
        let a = chunk_tells inn line mem s rest (suc room) p w h e f in
        let z : 0 + c ≡ c = zero-add c in
        let l : c ≤ length s = omega arith in
        tell_both (plainly g) (plainly (play_rounds_up_to weigh most r (drop c s) (suc room - g.numbers.written) g.numbers.place g.mem)) a
        (rw z
        (rounds_tell most (inn - c) (drop c line) g.mem (drop c s) rest (suc room - g.numbers.written) g.numbers.place
        (simp length-drop (omega arith))
        (rw (chunk_keeps r weigh fit s (suc room) p mem h).long h)
        (rw (add-zero (r.n - 1), z) at a.history)
        (drop-drop (r.n - 1) c line
        ∙ ap (λ (k : ℕ). drop k line) (add_comm c (r.n - 1))
        ∙ sym (drop-drop c (r.n - 1) line)
        ∙ ap (drop c) f
        ∙ drop-append-le c s rest l)))

  -- the magic round: the samples left follow the history's front
  magic_tells : (m room : ℕ) (line mem : List A) (p : Place) → r.n - 1 + m ≤ length mem
      → take (r.n - 1 + m) mem ≡ take (r.n - 1 + m) line → Tells m 0 p line (play_magic weigh r m room p mem)
  magic_tells zero room line mem p h e = unplayed_tells 0 p line mem (rw (add-zero (r.n - 1)) at e)
  magic_tells (suc m) room line mem p h e = record {
    moved = magic_moves r (suc m) room p;
    sound = round_sound line mem (suc m) room p h e;
    history =
        take-paste mem₁ (r.n - 1) (drop (r.n - 1 + c) mem₁) left (omega (arith, long)) (simp length-drop (omega (arith, long)))
        ∙ ap₂ (λ (x y : List A). x ++ y) (round_front line mem (suc m) room p h e) rest
        ∙ sym (take-add (r.n - 1) left (drop c line))
        ∙ ap (λ (k : ℕ). take (r.n - 1 + left) (drop k line)) read;
  }
    where
      mem₁ : List A
      mem₁ = (play_round weigh r (suc m) room p mem).mem

      c : ℕ
      c = (round r (suc m) room p).consumed

      left : ℕ
      left = suc m - c

      read : c ≡ suc m - left + 0
      read = omega arith

      long : length mem₁ ≡ length mem
      long = length-paste mem 0 (drop c mem) (r.n - 1) (omega arith) (simp length-drop (omega arith))

      rest : take left (drop (r.n - 1 + c) mem₁) ≡ take left (drop (r.n - 1) (drop c line))
      rest =
          ap (take left) (drop_past mem (drop c mem) 0 (r.n - 1) (r.n - 1 + c) (omega arith) (omega arith) (simp length-drop (omega arith)))
          ∙ same_window (r.n - 1 + suc m) left (r.n - 1 + c) mem line (omega arith) e
          ∙ ap (take left) (ap (λ (k : ℕ). drop k line) (add_comm (r.n - 1) c) ∙ sym (drop-drop (r.n - 1) c line))

  module _ (fit : Fit r) where
    pub call_tells : (m inn : ℕ) (line mem s rest : List A) (room : ℕ) (p : Place) → length s ≤ inn → r.alloc ≤ length mem
        → r.n - 1 + m ≤ r.alloc
        → take (r.n - 1 + m) mem ≡ take (r.n - 1 + m) line → drop (r.n - 1 + m) line ≡ s ++ rest
        → Tells m inn p line (play_call weigh r m s room p mem)
    call_tells m inn line mem s rest room p w h k e f = by (play_magic weigh r m room p mem).numbers.magic refl
      where
        first : Played Called A
        first = play_magic weigh r m room p mem

        a : Tells m 0 p line first
        a = magic_tells m room line mem p (omega arith) e

        b : Tells m inn p line first
        b = record { moved = widen r (omega arith) a.moved; sound = a.sound; history = a.history }

        none : first.numbers.turn.consumed ≡ 0
        none = omega (arith, a.moved.consumed)

        by : (left : ℕ) → first.numbers.magic ≡ left → Tells m inn p line (play_call weigh r m s room p mem)
        by zero z =
            let at : m - first.numbers.magic + first.numbers.turn.consumed ≡ m = omega (arith, none) in
            let front : r.n - 1 + first.numbers.magic ≡ r.n - 1 = omega arith in
            rw (play_call_spent weigh r m s room p mem z)
            (tell_both first (plainly (play_rounds weigh r s (room - first.numbers.turn.written) first.numbers.turn.place first.mem)) b
            (rw (at, z, none, sub-zero inn)
            (rounds_tell fit (length s) inn (drop m line) first.mem s rest
            (room - first.numbers.turn.written) first.numbers.turn.place w
            (rw (magic_keeps r weigh m room p mem h k).long h)
            (rw (front, at) at a.history)
            (drop-drop (r.n - 1) m line ∙ ap (λ (x : ℕ). drop x line) (add_comm m (r.n - 1)) ∙ f))))
        by (suc left) z = rw (play_call_left weigh r m s room left p mem z) b

    -- so for one call: past, magic samples and input make the line
    pub call_sounds : (m : ℕ) (s : List A) (room : ℕ) (p : Place) (mem : List A) → r.alloc ≤ length mem → r.n - 1 + m ≤ r.alloc
        → (play_call weigh r m s room p mem).out
        ≡ outputs weigh r (take (r.n - 1 + m) mem ++ s) (play_call weigh r m s room p mem).numbers.turn.written p
    call_sounds m s room p mem h k =
        let past = take (r.n - 1 + m) mem in
        let long : length past ≡ r.n - 1 + m = length-take-le (r.n - 1 + m) mem (omega arith) in
        (call_tells m (length s) (past ++ s) mem s [] room p (omega arith) h k
        (sym (take_at past s (r.n - 1 + m) long))
        (drop_at past s (r.n - 1 + m) long ∙ sym (append-nil s))).sound

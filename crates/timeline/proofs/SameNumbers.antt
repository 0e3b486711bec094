-- The numbers that go with the samples are those of `Numbers`: no sample decides a count. And there are as many outputs as the written count
-- says. Assumes nothing.
use mathlib.Core.Path.{◌≡◌, refl, sym, ◌∙◌, ap, ap₂}
use mathlib.Core.List.{List, [], ◌∷◌}
use Prim.Native.Nat.{ℕ, zero, suc, ◌+◌, ◌-◌, min}
use lib.ListN.{length, take, drop, length-take, length-drop, length-append}
use Rattle.timeline.specs.Numbers.{Rate, Place, Turn, Called, round, rounds_up_to, rounds, and_then, magic_round, call}
use Rattle.timeline.specs.Samples.{Played, play_chunk, play_rounds_up_to, play_rounds, play_magic, play_call}
use Rattle.timeline.specs.Recording.{Offer, call_then, one_call_more, calls, play_one_more, play_calls}
use Rattle.timeline.proofs.Outputs.{length_outputs}
use Rattle.timeline.proofs.Turns.{plain, call_left, call_spent}
use Rattle.timeline.proofs.Unrolled.{play_call_left, play_call_spent}

module _ {A : Type 0} (weigh : ℕ → List A → A) (r : Rate) where
  rounds_up_to_numbers : (most : ℕ) (s : List A) (room : ℕ) (p : Place) (mem : List A)
      → (play_rounds_up_to weigh most r s room p mem).numbers ≡ rounds_up_to most r (length s) room p
  rounds_up_to_numbers zero s room p mem = refl
  rounds_up_to_numbers (suc most) [] room p mem = refl
  rounds_up_to_numbers (suc most) (x ∷ xs) zero p mem = refl
  rounds_up_to_numbers (suc most) (x ∷ xs) (suc room) p mem =
      let h = play_chunk weigh r (x ∷ xs) (suc room) p mem in
      let t = h.numbers in
      ap (and_then t)
      (rounds_up_to_numbers most (drop t.consumed (x ∷ xs)) (suc room - t.written) t.place h.mem
      ∙ ap (λ (k : ℕ). rounds_up_to most r k (suc room - t.written) t.place) (length-drop t.consumed (x ∷ xs)))

  pub rounds_numbers : (s : List A) (room : ℕ) (p : Place) (mem : List A)
      → (play_rounds weigh r s room p mem).numbers ≡ rounds r (length s) room p
  rounds_numbers s room p mem = rounds_up_to_numbers (length s) s room p mem

  pub magic_numbers : (m room : ℕ) (p : Place) (mem : List A) → (play_magic weigh r m room p mem).numbers ≡ magic_round r m room p
  magic_numbers zero room p mem = refl
  magic_numbers (suc m) room p mem = refl

  pub call_numbers : (m : ℕ) (s : List A) (room : ℕ) (p : Place) (mem : List A)
      → (play_call weigh r m s room p mem).numbers ≡ call r m (length s) room p
  call_numbers m s room p mem = by (magic_round r m room p).magic refl
    where
      first : Called
      first = magic_round r m room p

      same : (play_magic weigh r m room p mem).numbers ≡ first
      same = magic_numbers m room p mem

      by : (left : ℕ) → first.magic ≡ left → (play_call weigh r m s room p mem).numbers ≡ call r m (length s) room p
      by zero e =
          let h = play_magic weigh r m room p mem in
          let t = h.numbers.turn in
          ap (λ (g : Played Called A). g.numbers) (play_call_spent weigh r m s room p mem (ap (λ (c : Called). c.magic) same ∙ e))
          ∙ ap (λ (x : Turn). call_then h.numbers (plain x)) (rounds_numbers s (room - t.written) t.place h.mem)
          ∙ ap (λ (c : Called). call_then c (plain (rounds r (length s) (room - c.turn.written) c.turn.place))) same
          ∙ sym (call_spent r m (length s) room p e)
      by (suc left) e =
          ap (λ (g : Played Called A). g.numbers) (play_call_left weigh r m s room left p mem (ap (λ (c : Called). c.magic) same ∙ e))
          ∙ same
          ∙ sym (call_left r m (length s) room left p e)

  one_more_numbers : (xs : List A) (o : Offer) (h : Played Called A)
      → (play_one_more weigh r xs o h).numbers ≡ one_call_more r (length xs) o h.numbers
  one_more_numbers xs o h =
      let c = h.numbers in
      let given = take o.samples (drop c.turn.consumed xs) in
      let e : length given ≡ min o.samples (length xs - c.turn.consumed) = simp (length-take, length-drop) in
      ap (call_then c)
      (call_numbers c.magic given o.room c.turn.place h.mem ∙ ap (λ (k : ℕ). call r c.magic k o.room c.turn.place) e)

  pub calls_numbers : (xs : List A) (os : List Offer) (h : Played Called A)
      → (play_calls weigh r xs os h).numbers ≡ calls r (length xs) os h.numbers
  calls_numbers xs [] h = refl
  calls_numbers xs (o ∷ os) h = calls_numbers xs os (play_one_more weigh r xs o h) ∙ ap (calls r (length xs) os) (one_more_numbers xs o h)

  rounds_length : (most : ℕ) (s : List A) (room : ℕ) (p : Place) (mem : List A)
      → length (play_rounds_up_to weigh most r s room p mem).out ≡ (play_rounds_up_to weigh most r s room p mem).numbers.written
  rounds_length zero s room p mem = refl
  rounds_length (suc most) [] room p mem = refl
  rounds_length (suc most) (x ∷ xs) zero p mem = refl
  rounds_length (suc most) (x ∷ xs) (suc room) p mem =
      let h = play_chunk weigh r (x ∷ xs) (suc room) p mem in
      let t = h.numbers in
      let g = play_rounds_up_to weigh most r (drop t.consumed (x ∷ xs)) (suc room - t.written) t.place h.mem in
      length-append h.out g.out
      ∙ ap₂ (λ (a b : ℕ). a + b) (length_outputs weigh r _ t.written p)
      (rounds_length most (drop t.consumed (x ∷ xs)) (suc room - t.written) t.place h.mem)

  magic_length : (m room : ℕ) (p : Place) (mem : List A)
      → length (play_magic weigh r m room p mem).out ≡ (play_magic weigh r m room p mem).numbers.turn.written
  magic_length zero room p mem = refl
  magic_length (suc m) room p mem = length_outputs weigh r mem (round r (suc m) room p).written p

  pub call_length : (m : ℕ) (s : List A) (room : ℕ) (p : Place) (mem : List A)
      → length (play_call weigh r m s room p mem).out ≡ (play_call weigh r m s room p mem).numbers.turn.written
  call_length m s room p mem = by (play_magic weigh r m room p mem).numbers.magic refl
    where
      h : Played Called A
      h = play_magic weigh r m room p mem

      by : (left : ℕ) → h.numbers.magic ≡ left
          → length (play_call weigh r m s room p mem).out ≡ (play_call weigh r m s room p mem).numbers.turn.written
      by zero e =
          let g = play_rounds weigh r s (room - h.numbers.turn.written) h.numbers.turn.place h.mem in
          rw (play_call_spent weigh r m s room p mem e)
          (length-append h.out g.out
          ∙ ap₂ (λ (a b : ℕ). a + b) (magic_length m room p mem)
          (rounds_length (length s) s (room - h.numbers.turn.written) h.numbers.turn.place h.mem))
      by (suc left) e = rw (play_call_left weigh r m s room left p mem e) (magic_length m room p mem)

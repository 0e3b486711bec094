-- The rounds over the input, one turn of the loop after another: what is done, and then the rounds that are left, is the whole.
-- Assumes nothing.
use mathlib.Core.Path.{◌≡◌, refl, sym, ◌∙◌, ap, ap₂, subst}
use mathlib.Core.Logic.{◌⊎◌, inl, inr}
use mathlib.Core.List.{List, [], ◌++◌}
use Prim.Native.Nat.{ℕ, ◌+◌, ◌-◌, ◌*◌, ◌^◌, ◌≤◌, ◌<◌, min}
use native.Mathlib.Nat.{sub-zero, sub-add-eq}
use native.Mathlib.Omega.{arith}
use lib.ListN.{length, take, drop, length-drop, length-append}
use lib.Seq.{paste, paste-zero, drop-drop, take-length, length-take-le}
use Rattle.timeline.specs.Numbers.{Rate, Place, Turn, Fit, chunk, still, and_then}
use Rattle.timeline.specs.Samples.{Played, unplayed, play_then, play_round, play_chunk, play_rounds}
use Rattle.timeline.proofs.Places.{made_fits, ahead_phase}
use Rattle.timeline.proofs.Turns.{round_moves}
use Rattle.timeline.proofs.Bound.{round_position}
use Rattle.timeline.proofs.Outputs.{length_outputs}
use Rattle.timeline.proofs.History.{chunk_keeps}
use Rattle.timeline.proofs.Unrolled.{still_then, round_does, play_assoc, play_unplayed, play_rounds_end, play_rounds_go_on}
use Rattle.rounds.specs.Rounds.{Wrote}
use Rattle.calls.proofs.Onward.{as_long, then_wrote}

-- a sample more is read, or the room is full: less is left
less_to_read : (s o read done c w : ℕ) → read + c ≤ s → done + w ≤ o → 0 < c → s - (read + c) + (o - (done + w)) < s - read + (o - done)
less_to_read s o read done c w h k l = omega arith

less_room : (s o read done c w : ℕ) → read + c ≤ s → done < o → o - done - w ≡ 0 → s - (read + c) + (o - (done + w)) < s - read + (o - done)
less_room s o read done c w h k l = omega arith

-- a front of a list laid into another, as what is lent of it
paste_taken : {A : Type 0} (d : List A) (at : ℕ) (s : List A) (n : ℕ) → n ≤ length s → paste d at (take n s) (length (take n s)) ≡ paste d at s n
paste_taken d at s n h = rw (take-length (take n s), length-take-le n s h) refl

-- the first round over the input, once a chunk is copied in
pub chunk_wrote : {A : Type 0} (weigh : ℕ → List A → A) (r : Rate) (s : List A) (room : ℕ) (p : Place) (mem : List A)
    {mem' left before after : List A} {t : Turn} (i : ℕ) → i ≡ min (length s) (chunk r) → mem' ≡ paste mem (r.n - 1) (take i s) (length (take i s))
    → Wrote (play_round weigh r i room p mem') t left before after
    → Wrote (play_chunk weigh r s room p mem) t left before after
chunk_wrote {A} weigh r s room p mem {mem'} {left} {before} {after} {t} i e f w =
    subst (λ (h : Played Turn A). Wrote h t left before after)
    (ap₂ (λ (k : ℕ) (m : List A). play_round weigh r k room p m) e (f ∙ paste_taken mem (r.n - 1) s i (omega (arith, e)) ∙ ap (λ (k : ℕ). paste mem (r.n - 1) s k) e)) w

module _ {A : Type 0} (weigh : ℕ → List A → A) (r : Rate) (s mem₀ out₀ : List A) (p : Place) where
  -- the invariant, with `read` samples read, `done` outputs written, and the place q
  pub record Playing (read done : ℕ) (q : Place) (mem out : List A) : Type 0 where
    pub so_far : Played Turn A
    pub wrote : Wrote so_far (record { consumed = read; written = done; place = q }) mem out₀ out
    pub count : length so_far.out ≡ done
    pub rest : play_then and_then so_far (play_rounds weigh r (drop read s) (length out₀ - done) q mem) ≡ play_rounds weigh r s (length out₀) p mem₀
    pub within : read ≤ length s
    pub fits : done ≤ length out₀
    pub sized : length mem ≡ length mem₀
    pub long : length out ≡ length out₀
    pub phase : q.phase < r.den
    pub position : q.position ≤ 2 ^ 32

  pub begins : p.phase < r.den → p.position ≤ 2 ^ 32 → Playing 0 0 p mem₀ out₀
  begins h k = record {
    so_far = unplayed (still p) mem₀;
    wrote = record { numbers = refl; mem = refl; out = paste-zero out₀ 0 [] };
    count = refl;
    rest = rw (sub-zero (length out₀)) (none (play_rounds weigh r s (length out₀) p mem₀));
    within = omega arith;
    fits = omega arith;
    sized = refl;
    long = refl;
    phase = h;
    position = k;
  }
    where
      none : (h : Played Turn A) → play_then and_then (unplayed (still p) mem₀) h ≡ h
      none h = λ i. record { numbers = still_then p h.numbers i; out = h.out; mem = h.mem }

  pub ends : {read done : ℕ} {q : Place} {mem out : List A} → Playing read done q mem out → (length s ≤ read) ⊎ (length out₀ ≤ done)
      → Wrote (play_rounds weigh r s (length out₀) p mem₀) (record { consumed = read; written = done; place = q }) mem out₀ out
  ends {read} {done} {q} {mem} {out} v h =
      let e : (length (drop read s) ≡ 0) ⊎ (length out₀ - done ≡ 0) =
      elim h [ inl l ↦ inl (simp length-drop (omega arith)) | inr g ↦ inr (omega arith) ] in
      let t : Turn = record { consumed = read; written = done; place = q } in
      let place : q ≡ v.so_far.numbers.place = ap (λ (u : Turn). u.place) v.wrote.numbers in
      subst (λ (g : Played Turn A). Wrote g t mem out₀ out)
      (sym (play_unplayed v.so_far)
      ∙ ap₂ (λ (u : Place) (m : List A). play_then and_then v.so_far (unplayed (still u) m)) (sym place) (sym v.wrote.mem)
      ∙ ap (play_then and_then v.so_far) (sym (play_rounds_end weigh r (drop read s) (length out₀ - done) q mem e))
      ∙ v.rest)
      v.wrote

  -- a turn of the loop: it read and wrote within the slices, less is left, and the invariant holds again once the part is back
  pub record Turned (read done : ℕ) (t : Turn) (left out part : List A) : Type 0 where
    pub reads : read + t.consumed ≤ length s
    pub writes : done + t.written ≤ length out₀
    pub less : length s - (read + t.consumed) + (length out₀ - (done + t.written)) < length s - read + (length out₀ - done)
    pub again : Playing (read + t.consumed) (done + t.written) t.place left (take done out ++ part)

  -- one turn, where input and room remain
  module _ (fit : Fit r) (slow : r.num ≤ r.den * 2 ^ 32) (lent : r.alloc ≤ length mem₀) {read done : ℕ} {q : Place} {mem out : List A}
      (v : Playing read done q mem out) (a : read < length s) (b : done < length out₀) where
    abbrev i : ℕ
    i = min (length (drop read s)) (chunk r)

    abbrev room : ℕ
    room = length out₀ - done

    abbrev h : Played Turn A
    h = play_chunk weigh r (drop read s) room q mem

    in_left : length (drop read s) ≡ length s - read
    in_left = length-drop read s

    reads_within : read + h.numbers.consumed ≤ length s
    reads_within = omega (arith, (round_moves r i room q).consumed, in_left)

    writes_within : done + h.numbers.written ≤ length out₀
    writes_within = omega (arith, made_fits r i room q)

    less : length s - (read + h.numbers.consumed) + (length out₀ - (done + h.numbers.written)) < length s - read + (length out₀ - done)
    less = elim (round_does r i room q (omega (arith, in_left, fit.alloc))) [
      | inl l ↦ less_to_read (length s) (length out₀) read done h.numbers.consumed h.numbers.written reads_within writes_within l
      | inr z ↦ less_room (length s) (length out₀) read done h.numbers.consumed h.numbers.written reads_within b z
    ]

    -- what a chunk's round over the rest of the input wrote into the rest of the output
    module _ {t : Turn} {lent-in lent_out left part : List A} (es : lent-in ≡ drop read s) (eo : lent_out ≡ drop done out)
        (w : Wrote (play_chunk weigh r lent-in (length lent_out) q mem) t left lent_out part) where
      wrote : Wrote h t left (drop done out) part
      wrote =
          let el : length (drop done out) ≡ room = length-drop done out ∙ ap (λ (k : ℕ). k - done) v.long in
          subst (λ (k : ℕ). Wrote (play_chunk weigh r (drop read s) k q mem) t left (drop done out) part) el
          (subst (λ (l : List A). Wrote (play_chunk weigh r l (length (drop done out)) q mem) t left (drop done out) part) es
          (subst (λ (l : List A). Wrote (play_chunk weigh r lent-in (length l) q mem) t left l part) eo w))

      pub goes_on : Turned read done t left out part
      goes_on = record { reads = reads; writes = writes; less = rw wrote.numbers less; again = again }
        where
          reads : read + t.consumed ≤ length s
          reads = rw wrote.numbers reads_within

          writes : done + t.written ≤ length out₀
          writes = rw wrote.numbers writes_within

          joined : Wrote (play_then and_then v.so_far h)
              (record { consumed = read + t.consumed; written = done + t.written; place = t.place }) left out₀ (take done out ++ part)
          joined = then_wrote done v.wrote v.count wrote and_then

          number : length (v.so_far.out ++ h.out) ≡ done + t.written
          number =
              length-append v.so_far.out h.out
              ∙ ap₂ (λ (x y : ℕ). x + y) v.count
              (length_outputs weigh r _ h.numbers.written q ∙ ap (λ (u : Turn). u.written) (sym wrote.numbers))

          after : Played Turn A
          after = play_rounds weigh r (drop h.numbers.consumed (drop read s)) (room - h.numbers.written) h.numbers.place h.mem

          onwards : play_then and_then (play_then and_then v.so_far h)
              (play_rounds weigh r (drop (read + h.numbers.consumed) s) (length out₀ - (done + h.numbers.written)) h.numbers.place h.mem)
              ≡ play_rounds weigh r s (length out₀) p mem₀
          onwards =
              ap (play_then and_then (play_then and_then v.so_far h))
              (ap₂ (λ (l : List A) (k : ℕ). play_rounds weigh r l k h.numbers.place h.mem)
              (sym (drop-drop h.numbers.consumed read s)) (sub-add-eq (length out₀) done h.numbers.written))
              ∙ sym (play_assoc v.so_far h after)
              ∙ ap (play_then and_then v.so_far)
              (sym (play_rounds_go_on weigh r fit (drop read s) room q mem (omega (arith, in_left)) (omega arith)))
              ∙ v.rest

          again : Playing (read + t.consumed) (done + t.written) t.place left (take done out ++ part)
          again = record {
            so_far = play_then and_then v.so_far h;
            wrote = joined;
            count = number;
            rest = rw (wrote.numbers, wrote.mem) onwards;
            within = reads;
            fits = writes;
            sized = ap length wrote.mem ∙ (chunk_keeps r weigh fit (drop read s) room q mem (omega (arith, v.sized))).long ∙ v.sized;
            long = as_long joined (omega (arith, number, writes));
            phase = rw wrote.numbers (ahead_phase r fit.den h.numbers.written q v.phase);
            position = rw wrote.numbers (round_position r fit.den (2 ^ 32) slow i room q v.phase (omega (arith, v.position)));
          }

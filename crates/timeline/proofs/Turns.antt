-- What a round, a call and a list of calls do to the numbers, in one record: any two turns in a row make one that has it again.
-- Assumes nothing.
use mathlib.Core.Path.{◌≡◌, refl, sym, ◌∙◌, ap}
use mathlib.Core.Logic.{◌⊎◌, inl, inr}
use mathlib.Core.List.{List, [], ◌∷◌}
use Prim.Native.Nat.{ℕ, zero, suc, ◌+◌, ◌-◌, ◌≤◌, ◌<◌, min}
use native.Mathlib.Nat.{not-suc-le-zero, sub-zero}
use native.Mathlib.Omega.{arith}
use Rattle.timeline.specs.Numbers.{Rate, Place, Turn, Called, chunk, ahead, made, round, rounds_up_to, rounds, magic_round, still, call}
use Rattle.timeline.specs.Recording.{Offer, call_then, one_call_more, calls}
use Rattle.timeline.proofs.Places.{below_or_not, lifted, lifted_none, lifted_twice, ahead_lifted, ahead_add, made_below, made_fits}

-- from place p, over m magic samples and then `inn` of the input: the place, counted from where it began, is that of the outputs written,
-- and each of those was made below the samples' end
pub record Moved (r : Rate) (m inn : ℕ) (p : Place) (c : Called) : Type 0 where
  pub consumed : c.turn.consumed ≤ inn
  pub magic : c.magic ≤ m
  pub magic_first : (c.magic ≡ 0) ⊎ (c.turn.consumed ≡ 0)
  pub place : lifted (m - c.magic + c.turn.consumed) c.turn.place ≡ ahead r c.turn.written p
  pub below : (j : ℕ) → j < c.turn.written → (ahead r j p).position < m + inn

-- a turn that leaves no magic samples
abbrev pub plain : Turn → Called
plain t = record { turn = t; magic = 0 }

put_back : (a b : ℕ) → min a b + (a - min a b) ≡ a
put_back a b = omega arith

module _ (r : Rate) where
  pub still_moves : (inn : ℕ) (p : Place) → Moved r 0 inn p (plain (still p))
  still_moves inn p = record {
    consumed = omega arith;
    magic = omega arith;
    magic_first = inl refl;
    place = lifted_none p;
    below = λ j l. absurd (not-suc-le-zero l);
  }

  -- a round's place, counted from where it began
  round_place : (i room : ℕ) (p : Place)
      → lifted (round r i room p).consumed (round r i room p).place ≡ ahead r (round r i room p).written p
  round_place i room p = rw (put_back (ahead r (made r i room p) p).position i)

  pub round_moves : (i room : ℕ) (p : Place) → Moved r 0 i p (plain (round r i room p))
  round_moves i room p = record {
    consumed = omega arith;
    magic = omega arith;
    magic_first = inl refl;
    place = ap (λ (c : ℕ). lifted c (round r i room p).place) (omega arith) ∙ round_place i room p;
    below = λ j l. omega (arith, made_below r i room p j l);
  }

  pub magic_moves : (m room : ℕ) (p : Place) → Moved r m 0 p (magic_round r m room p)
  magic_moves zero room p = still_moves 0 p
  magic_moves (suc m) room p = record {
    consumed = omega arith;
    magic = omega arith;
    magic_first = inr refl;
    place = ap (λ (c : ℕ). lifted c (round r (suc m) room p).place) (omega arith) ∙ round_place (suc m) room p;
    below = λ j l. omega (arith, made_below r (suc m) room p j l);
  }

  pub widen : {m i inn : ℕ} {p : Place} {c : Called} → i ≤ inn → Moved r m i p c → Moved r m inn p c
  widen w a = record {
    consumed = omega (arith, a.consumed);
    magic = a.magic;
    magic_first = a.magic_first;
    place = a.place;
    below = λ j l. omega (arith, a.below j l);
  }

  -- one after the other
  pub joined : {m inn : ℕ} {p : Place} (c d : Called) → Moved r m inn p c → Moved r c.magic (inn - c.turn.consumed) c.turn.place d
      → Moved r m inn p (call_then c d)
  joined {m} {inn} {p} c d a b = record {
    consumed = omega (arith, a.consumed, b.consumed);
    magic = omega (arith, a.magic, b.magic);
    magic_first = elim b.magic_first [
      | inl e ↦ inl e
      | inr e ↦ elim a.magic_first [ inl z ↦ inl (omega (arith, b.magic)) | inr z ↦ inr (omega arith) ]
    ];
    place =
        ap (λ (x : ℕ). lifted x d.turn.place) (omega (arith, a.magic, b.magic))
        ∙ lifted_twice from (c.magic - d.magic + d.turn.consumed) d.turn.place
        ∙ ap (lifted from) b.place
        ∙ sym (onwards d.turn.written);
    below = λ j l. elim (below_or_not j c.turn.written) [
      | inl s ↦ a.below j s
      | inr s ↦ later j (j - c.turn.written) (omega arith) (b.below (j - c.turn.written) (omega arith))
    ];
  }
    where
      from : ℕ
      from = m - c.magic + c.turn.consumed

      onwards : (i : ℕ) → ahead r (c.turn.written + i) p ≡ lifted from (ahead r i c.turn.place)
      onwards i = ahead_add r c.turn.written i p ∙ ap (ahead r i) (sym a.place) ∙ ahead_lifted r i from c.turn.place

      later : (j i : ℕ) → c.turn.written + i ≡ j → (ahead r i c.turn.place).position < c.magic + (inn - c.turn.consumed)
          → (ahead r j p).position < m + inn
      later j i e h = rw (← e, onwards i) (omega (arith, a.consumed, a.magic))

  rounds_move : (most inn room : ℕ) (p : Place) → Moved r 0 inn p (plain (rounds_up_to most r inn room p))
  rounds_move zero inn room p = still_moves inn p
  rounds_move (suc most) zero room p = still_moves zero p
  rounds_move (suc most) (suc inn) zero p = still_moves (suc inn) p
  rounds_move (suc most) (suc inn) (suc room) p =
      let i = min (suc inn) (chunk r) in
      let t = round r i (suc room) p in
      joined (plain t) _ (widen (omega arith) (round_moves i (suc room) p)) (rounds_move most (suc inn - t.consumed) _ t.place)

  uncounted : (m room : ℕ) (p : Place) → (magic_round r m room p).turn.consumed ≡ 0
  uncounted zero room p = refl
  uncounted (suc m) room p = refl

  -- a call is its magic round, or that and then the rounds over the input
  pub call_left : (m inn room left : ℕ) (p : Place) → (magic_round r m room p).magic ≡ suc left → call r m inn room p ≡ magic_round r m room p
  call_left m inn room left p e = rw (e, call)

  pub call_spent : (m inn room : ℕ) (p : Place) → (magic_round r m room p).magic ≡ 0
      → call r m inn room p
      ≡ call_then (magic_round r m room p) (plain (rounds r inn (room - (magic_round r m room p).turn.written) (magic_round r m room p).turn.place))
  call_spent m inn room p e = rw (e, call)

  pub call_moves : (m inn room : ℕ) (p : Place) → Moved r m inn p (call r m inn room p)
  call_moves m inn room p = by (magic_round r m room p).magic refl
    where
      first : Called
      first = magic_round r m room p

      by : (left : ℕ) → first.magic ≡ left → Moved r m inn p (call r m inn room p)
      by zero e =
          rw (call_spent m inn room p e)
          (joined first (plain (rounds r inn (room - first.turn.written) first.turn.place))
          (widen (omega arith) (magic_moves m room p))
          (rw (e, uncounted m room p, sub-zero inn) (rounds_move inn inn (room - first.turn.written) first.turn.place)))
      by (suc left) e = rw (call_left m inn room left p e) (widen (omega arith) (magic_moves m room p))

  -- what is written fits the room
  rounds_fit : (most inn room : ℕ) (p : Place) → (rounds_up_to most r inn room p).written ≤ room
  rounds_fit zero inn room p = omega arith
  rounds_fit (suc most) zero room p = omega arith
  rounds_fit (suc most) (suc inn) zero p = omega arith
  rounds_fit (suc most) (suc inn) (suc room) p =
      let i = min (suc inn) (chunk r) in
      let t = round r i (suc room) p in
      omega (arith, made_fits r i (suc room) p, rounds_fit most (suc inn - t.consumed) (suc room - t.written) t.place)

  magic_fits : (m room : ℕ) (p : Place) → (magic_round r m room p).turn.written ≤ room
  magic_fits zero room p = omega arith
  magic_fits (suc m) room p = made_fits r (suc m) room p

  pub call_fits : (m inn room : ℕ) (p : Place) → (call r m inn room p).turn.written ≤ room
  call_fits m inn room p = by (magic_round r m room p).magic refl
    where
      first : Called
      first = magic_round r m room p

      by : (left : ℕ) → first.magic ≡ left → (call r m inn room p).turn.written ≤ room
      by zero e =
          rw (call_spent m inn room p e)
          (omega (arith, magic_fits m room p, rounds_fit inn inn (room - first.turn.written) first.turn.place))
      by (suc left) e = rw (call_left m inn room left p e) (magic_fits m room p)

  -- however many calls, of a recording of `len` samples
  pub one_more_moves : {m len : ℕ} {p : Place} (o : Offer) (c : Called) → Moved r m len p c → Moved r m len p (one_call_more r len o c)
  one_more_moves {m} {len} o c a =
      joined c (call r c.magic (min o.samples (len - c.turn.consumed)) o.room c.turn.place) a
      (widen (omega arith) (call_moves c.magic (min o.samples (len - c.turn.consumed)) o.room c.turn.place))

  pub calls_move : {m len : ℕ} {p : Place} (os : List Offer) (c : Called) → Moved r m len p c → Moved r m len p (calls r len os c)
  calls_move [] c a = a
  calls_move {m} {len} (o ∷ os) c a = calls_move os (one_call_more r len o c) (one_more_moves o c a)

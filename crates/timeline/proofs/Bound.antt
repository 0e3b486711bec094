-- A call keeps the position within h, where num/den is at most h: an output is made below the samples' end and moves the position by at most
-- h, and the round lowers it by what it consumes. With h = n/2 this is the position's bound in a state whose numbers belong together; with
-- magic samples the position may even start h above their number. Assumes nothing.
use mathlib.Core.Path.{◌≡◌, refl, ap}
use Prim.Native.Nat.{ℕ, zero, suc, ◌+◌, ◌-◌, ◌*◌, ◌/◌, ◌≤◌, ◌<◌, min}
use native.Mathlib.Nat.{div-lt_iff_lt-mul}
use native.Mathlib.Omega.{arith}
use Rattle.timeline.specs.Numbers.{Rate, Place, Called, chunk, next, ahead, made, round, rounds_up_to, magic_round, call}
use Rattle.timeline.proofs.Places.{ahead_last, made_below, ahead_phase}
use Rattle.timeline.proofs.Turns.{call_left, call_spent}

module _ (r : Rate) (den : 0 < r.den) (h : ℕ) (slow : r.num ≤ r.den * h) where
  -- an output moves the position by at most h
  next_near : (p : Place) → p.phase < r.den → (next r p).position ≤ p.position + h
  next_near p s =
      let q : (p.phase + r.num) / r.den < h + 1 = (div-lt_iff_lt-mul {k = r.den} {x = p.phase + r.num} {y = h + 1} den).1 (omega arith) in
      omega arith

  -- k outputs, each made below i
  after_some : (i k : ℕ) (p : Place) → p.phase < r.den → ((j : ℕ) → j < k → (ahead r j p).position < i) → p.position ≤ h + i
      → (ahead r k p).position ≤ h + i
  after_some i zero p s b w = w
  after_some i (suc k) p s b w =
      let l : (ahead r k p).position < i = b k (omega arith) in
      let e : (ahead r (suc k) p).position ≡ (next r (ahead r k p)).position = ap (λ (q : Place). q.position) (ahead_last r k p) in
      omega (arith, next_near (ahead r k p) (ahead_phase r den k p s))

  pub round_position : (i room : ℕ) (p : Place) → p.phase < r.den → p.position ≤ h + i → (round r i room p).place.position ≤ h
  round_position i room p s w = omega (arith, after_some i (made r i room p) p s (λ j b. made_below r i room p j b) w)

  rounds_position : (most inn room : ℕ) (p : Place) → p.phase < r.den → p.position ≤ h
      → (rounds_up_to most r inn room p).place.position ≤ h
  rounds_position zero inn room p s w = w
  rounds_position (suc most) zero room p s w = w
  rounds_position (suc most) (suc inn) zero p s w = w
  rounds_position (suc most) (suc inn) (suc room) p s w =
      let i = min (suc inn) (chunk r) in
      let t = round r i (suc room) p in
      rounds_position most (suc inn - t.consumed) (suc room - t.written) t.place
      (ahead_phase r den t.written p s) (round_position i (suc room) p s (omega arith))

  magic_position : (m room : ℕ) (p : Place) → p.phase < r.den → p.position ≤ h + m → (magic_round r m room p).turn.place.position ≤ h
  magic_position zero room p s w = omega arith
  magic_position (suc m) room p s w = round_position (suc m) room p s w

  magic_phase : (m room : ℕ) (p : Place) → p.phase < r.den → (magic_round r m room p).turn.place.phase < r.den
  magic_phase zero room p s = s
  magic_phase (suc m) room p s = ahead_phase r den (made r (suc m) room p) p s

  pub call_position : (m inn room : ℕ) (p : Place) → p.phase < r.den → p.position ≤ h + m
      → (call r m inn room p).turn.place.position ≤ h
  call_position m inn room p s w = by (magic_round r m room p).magic refl
    where
      first : Called
      first = magic_round r m room p

      by : (left : ℕ) → first.magic ≡ left → (call r m inn room p).turn.place.position ≤ h
      by zero e =
          rw (call_spent r m inn room p e)
          (rounds_position inn inn (room - first.turn.written) first.turn.place (magic_phase m room p s) (magic_position m room p s w))
      by (suc left) e = rw (call_left r m inn room left p e) (magic_position m room p s w)

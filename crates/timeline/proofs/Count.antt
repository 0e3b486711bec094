-- The count of a closed recording: once all is read, the last output was made below the closing silence's end and the next one would not be.
-- Assumes nothing.
use mathlib.Core.Path.{◌≡◌, refl, sym, ◌∙◌, ap}
use mathlib.Core.Logic.{inl, inr}
use mathlib.Core.List.{List, [], ◌∷◌, ◌++◌}
use Prim.Native.Nat.{ℕ, zero, suc, ◌+◌, ◌-◌, ◌*◌, ◌/◌, ◌≤◌, ◌<◌, min}
use native.Mathlib.Nat.{div-eq_of_lt-le, div-add-mod', mod-lt, mul-le-mul_left, not-suc-le-zero}
use native.Mathlib.Omega.{arith}
use Rattle.timeline.specs.Numbers.{Rate, Place, Called, Fit, chunk, ahead, round, rounds_up_to, rounds, fresh, call}
use Rattle.timeline.specs.Recording.{Offer, recorded, one_call_more, calls}
use Rattle.timeline.specs.Laws.{Ceiling, upwards}
use Rattle.timeline.proofs.Places.{below_or_not, ahead_reach, ahead_phase, made_ends}
use Rattle.timeline.proofs.Turns.{Moved, call_moves, one_more_moves}
use Rattle.timeline.proofs.Law.{recorded_moves, recording_law}
use Rattle.timeline.proofs.Unrolled.{call_plain}

-- the two forms of a quotient rounded up
pub ceiling_is : {y : ℕ} (x k : ℕ) → 0 < y → Ceiling x y k → k ≡ upwards x y
ceiling_is {y} x zero h c = sym (div-eq_of_lt-le y (omega arith) (omega (arith, c.enough)))
ceiling_is {y} x (suc k) h c = sym (div-eq_of_lt-le y (omega (arith, c.least k (omega arith))) (omega (arith, c.enough)))

upwards_enough : (x y : ℕ) → 0 < y → x ≤ upwards x y * y
upwards_enough x y h = omega (arith, div-add-mod' (x + y - 1) y, mod-lt (x + y - 1) h)

-- what lies below position x, with a phase below den, lies below den * x
under : (den q f x : ℕ) → f < den → q < x → den * q + f < den * x
under den q f x hf hq = omega (arith, mul-le-mul_left den hq)

-- the last of a list of calls
pub calls_last : (r : Rate) (len : ℕ) (os : List Offer) (o : Offer) (c : Called)
    → calls r len (os ++ (o ∷ [])) c ≡ one_call_more r len o (calls r len os c)
calls_last r len [] o c = refl
calls_last r len (x ∷ os) o c = calls_last r len os o (one_call_more r len x c)

module _ (r : Rate) (fit : Fit r) where
  -- output j of a recording of `len` samples lies below its end
  below_end : {len : ℕ} {c : Called} (j : ℕ) → Moved r 0 len (fresh r) c → j < c.turn.written
      → r.den * (r.n / 2) + j * r.num < r.den * len
  below_end {len} j a l =
      let q = ahead r j (fresh r) in
      let phase : q.phase < r.den = ahead_phase r fit.den j (fresh r) fit.den in
      let position : q.position < len = omega (arith, a.below j l) in
      omega (arith, ahead_reach r j (fresh r), under r.den q.position q.phase len phase position)

  -- M samples and the closing n/2
  module _ (M : ℕ) where
    pub closed_count : (os : List Offer) → (recorded r (M + r.n / 2) os).turn.consumed ≡ M + r.n / 2
        → Ceiling (M * r.den) r.num (recorded r (M + r.n / 2) os).turn.written
    closed_count os e =
        let t = (recorded r (M + r.n / 2) os).turn in
        let f : r.den * t.consumed ≡ r.den * (M + r.n / 2) = ap (λ (x : ℕ). r.den * x) e in
        record {
          enough = omega (arith, (recording_law r fit (M + r.n / 2) os).law, (recording_law r fit (M + r.n / 2) os).phase, f);
          least = λ j l. omega (arith, below_end j (recorded_moves r fit (M + r.n / 2) os) l);
        }

  -- rounds that leave room have read all
  rounds_read : (most inn room : ℕ) (p : Place) → inn ≤ most → (rounds_up_to most r inn room p).written < room
      → (rounds_up_to most r inn room p).consumed ≡ inn
  rounds_read zero inn room p f h = omega arith
  rounds_read (suc most) zero room p f h = refl
  rounds_read (suc most) (suc inn) zero p f h = absurd (not-suc-le-zero h)
  rounds_read (suc most) (suc inn) (suc room) p f h =
      let i = min (suc inn) (chunk r) in
      let t = round r i (suc room) p in
      let full : i ≤ (ahead r t.written p).position = made_ends r i (suc room) p (omega arith) in
      let all : t.consumed ≡ i = omega arith in
      omega (arith, fit.alloc, rounds_read most (suc inn - t.consumed) (suc room - t.written) t.place (omega (arith, fit.alloc)) (omega arith))

  plain_call_reads : (inn room : ℕ) (p : Place) → (call r 0 inn room p).turn.written < room → (call r 0 inn room p).turn.consumed ≡ inn
  plain_call_reads inn room p h =
      let e = call_plain r inn room p in
      let w : (call r 0 inn room p).turn.written ≡ (rounds r inn room p).written = ap (λ (c : Called). c.turn.written) e in
      ap (λ (c : Called). c.turn.consumed) e ∙ rounds_read inn inn room p (omega arith) (omega arith)

  -- read or not, there are never more outputs than the count
  pub never_more : (M : ℕ) {c : Called} → Moved r 0 (M + r.n / 2) (fresh r) c → c.turn.written ≤ upwards (M * r.den) r.num
  never_more M {c} a =
      let k = upwards (M * r.den) r.num in
      elim (below_or_not k c.turn.written) [
        | inl l ↦ absurd (omega (arith, upwards_enough (M * r.den) r.num fit.num, below_end k a l))
        | inr g ↦ g
      ]

  -- one call more that is offered a sample, with room for an output: a sample is read or an output is made
  pub one_more_goes_on : (len : ℕ) (c : Called) (o : Offer) → c.magic ≡ 0 → c.turn.consumed < len → 0 < o.samples → 0 < o.room
      → c.turn.consumed + c.turn.written < (one_call_more r len o c).turn.consumed + (one_call_more r len o c).turn.written
  one_more_goes_on len c o z h s w =
      let inn = min o.samples (len - c.turn.consumed) in
      let d = call r c.magic inn o.room c.turn.place in
      elim (below_or_not d.turn.written o.room) [
        | inl l ↦
            (let all : d.turn.consumed ≡ inn = rw z (plain_call_reads inn o.room c.turn.place (rw z at l)) in
            omega arith)
        | inr g ↦ omega arith
      ]

  -- one call more that is offered all that is left, with more room than the outputs that the count lacks: all is read
  pub one_more_reads : (M : ℕ) (c : Called) (o : Offer) → Moved r 0 (M + r.n / 2) (fresh r) c
      → M + r.n / 2 ≤ c.turn.consumed + o.samples → upwards (M * r.den) r.num < c.turn.written + o.room
      → (one_call_more r (M + r.n / 2) o c).turn.consumed ≡ M + r.n / 2
  one_more_reads M c o a s w =
      let len = M + r.n / 2 in
      let inn = min o.samples (len - c.turn.consumed) in
      let d = call r c.magic inn o.room c.turn.place in
      let z : c.magic ≡ 0 = omega (arith, a.magic) in
      elim (below_or_not d.turn.written o.room) [
        | inl l ↦
            (let all : d.turn.consumed ≡ inn = rw z (plain_call_reads inn o.room c.turn.place (rw z at l)) in
            omega (arith, a.consumed))
        | inr g ↦ absurd (omega (arith, never_more M (one_more_moves r o c a)))
      ]

  -- a call cannot fill a room for more outputs than its samples lead to: the last would lie past them
  full_room : (p : Place) (inn room : ℕ) → p.phase < r.den → r.den * inn + r.num ≤ room * r.num → room ≤ (call r 0 inn room p).turn.written → ⊥
  full_room p inn zero ph w g = omega (arith, fit.num)
  full_room p inn (suc j) ph w g =
      let q = ahead r j p in
      let position : q.position < inn = omega (arith, (call_moves r 0 inn (suc j) p).below j g) in
      omega (arith, ahead_reach r j p, under r.den q.position q.phase inn (ahead_phase r fit.den j p ph) position)

  -- the phase that outputs from the first place led to
  phase_below : {len : ℕ} (c : Called) → Moved r 0 len (fresh r) c → c.turn.place.phase < r.den
  phase_below c a = rw (ap (λ (q : Place). q.phase) a.place) (ahead_phase r fit.den c.turn.written (fresh r) fit.den)

  -- one call more that is offered no more samples than are left, with more room than the outputs that they can lead to: it reads them all
  pub one_more_reads_its_own : {len : ℕ} (c : Called) (o : Offer) → Moved r 0 len (fresh r) c → c.turn.consumed + o.samples ≤ len
      → r.den * o.samples + r.num ≤ o.room * r.num → (one_call_more r len o c).turn.consumed ≡ c.turn.consumed + o.samples
  one_more_reads_its_own {len} c o a fits w =
      let p = c.turn.place in
      let inn = min o.samples (len - c.turn.consumed) in
      let d = call r c.magic inn o.room p in
      let z : c.magic ≡ 0 = omega (arith, a.magic) in
      let least : inn ≤ o.samples = omega arith in
      elim (below_or_not d.turn.written o.room) [
        | inl l ↦
            (let all : d.turn.consumed ≡ inn = rw z (plain_call_reads inn o.room p (rw z at l)) in
            omega arith)
        | inr g ↦ absurd (full_room p inn o.room (phase_below c a) (omega (arith, mul-le-mul_left r.den least)) (rw z at g))
      ]

-- The position law, for one call and for any list of calls: the place, counted from the start, is that of the outputs written, and each
-- output moves it by num den-ths. Assumes nothing.
use mathlib.Core.Path.{◌≡◌, ◌∙◌, ap}
use mathlib.Core.List.{List}
use Prim.Native.Nat.{ℕ, ◌+◌, ◌-◌, ◌*◌, ◌<◌}
use native.Mathlib.Omega.{arith}
use Rattle.timeline.specs.Numbers.{Rate, Place, Called, Fit, fresh, call}
use Rattle.timeline.specs.Recording.{Offer, start, recorded}
use Rattle.timeline.specs.Laws.{CallLaw, Law}
use Rattle.timeline.proofs.Places.{reach, ahead_reach, ahead_phase}
use Rattle.timeline.proofs.Turns.{Moved, still_moves, call_moves, call_fits, calls_move}

module _ (r : Rate) (fit : Fit r) where
  moved_reach : {m inn : ℕ} {p : Place} (c : Called) → Moved r m inn p c
      → r.den * (m - c.magic + c.turn.consumed + c.turn.place.position) + c.turn.place.phase ≡ reach r p + c.turn.written * r.num
  moved_reach {p = p} c a = ap (reach r) a.place ∙ ahead_reach r c.turn.written p

  moved_phase : {m inn : ℕ} {p : Place} (c : Called) → p.phase < r.den → Moved r m inn p c → c.turn.place.phase < r.den
  moved_phase {p = p} c h a = rw (ap (λ (q : Place). q.phase) a.place) (ahead_phase r fit.den c.turn.written p h)

  pub call_law : (m inn room : ℕ) (p : Place) → p.phase < r.den → CallLaw r m inn room p (call r m inn room p)
  call_law m inn room p h =
      let a = call_moves r m inn room p in
      record {
        consumed = a.consumed;
        written = call_fits r m inn room p;
        magic = a.magic;
        magic_first = a.magic_first;
        law = moved_reach (call r m inn room p) a;
        phase = moved_phase (call r m inn room p) h a;
      }

  pub recorded_moves : (len : ℕ) (os : List Offer) → Moved r 0 len (fresh r) (recorded r len os)
  recorded_moves len os = calls_move r os (start r) (still_moves r len (fresh r))

  pub recording_law : (len : ℕ) (os : List Offer) → Law r (recorded r len os).turn
  recording_law len os =
      let c = recorded r len os in
      let a = recorded_moves len os in
      let z : 0 - c.magic + c.turn.consumed ≡ c.turn.consumed = omega arith in
      record { law = omega (arith, rw z at (moved_reach c a)); phase = moved_phase c fit.den a }

-- The round over the magic samples, and the call that begins with it. Assumes nothing.
use mathlib.Core.Path.{◌≡◌, refl, sym, ◌∙◌, ap, ap₂, subst}
use mathlib.Core.List.{List, [], ◌++◌}
use Prim.Native.Nat.{ℕ, zero, suc, ◌+◌, ◌-◌, ◌*◌, ◌^◌, ◌≤◌, ◌<◌}
use native.Mathlib.Nat.{not-suc-le-zero}
use native.Mathlib.Omega.{arith}
use lib.ListN.{length, take, drop, length-drop}
use lib.Seq.{paste, paste-zero}
use Rattle.timeline.specs.Numbers.{Rate, Place, Turn, Called, made, round, still, magic_round}
use Rattle.timeline.specs.Samples.{Played, play_round, play_rounds, play_magic, play_call}
use Rattle.timeline.specs.Recording.{call_then}
use Rattle.timeline.proofs.Places.{made_fits, ahead_phase}
use Rattle.timeline.proofs.Turns.{plain, round_moves, magic_moves, call_fits}
use Rattle.timeline.proofs.Bound.{round_position}
use Rattle.timeline.proofs.Outputs.{length_outputs}
use Rattle.timeline.proofs.SameNumbers.{rounds_numbers, magic_numbers}
use Rattle.timeline.proofs.Unrolled.{call_plain, plainly, play_call_left, play_call_spent}
use Rattle.rounds.specs.Rounds.{Wrote}
use Rattle.calls.proofs.Onward.{then_wrote}

-- a round over m magic samples, as a call tells it: none of them counts as consumed
abbrev pub magic_told : ℕ → Turn → Called
magic_told m t = record { turn = record { consumed = 0; written = t.written; place = t.place }; magic = m - t.consumed }

-- where the round over m magic samples led
module _ (r : Rate) (room : ℕ) (p : Place) where
  fits_room : (m : ℕ) → (magic_round r m room p).turn.written ≤ room
  fits_room zero = omega arith
  fits_room (suc m) = made_fits r (suc m) room p

  module _ (den : 0 < r.den) (phase : p.phase < r.den) where
    phase_kept : (m : ℕ) → (magic_round r m room p).turn.place.phase < r.den
    phase_kept zero = phase
    phase_kept (suc m) = ahead_phase r den (made r (suc m) room p) p phase

    position_kept : r.num ≤ r.den * 2 ^ 32 → p.position ≤ 2 ^ 32 → (m : ℕ) → (magic_round r m room p).turn.place.position ≤ 2 ^ 32
    position_kept slow h zero = h
    position_kept slow h (suc m) = round_position r den (2 ^ 32) slow (suc m) room p phase (omega arith)

-- rounds over the input write no more than the room
pub rounds_written_fit : {A : Type 0} (weigh : ℕ → List A → A) (r : Rate) (s : List A) (room : ℕ) (p : Place) (mem : List A) {u : Turn} {left before after : List A}
    → Wrote (play_rounds weigh r s room p mem) u left before after → u.written ≤ room
rounds_written_fit weigh r s room p mem w =
    rw (w.numbers, rounds_numbers weigh r s room p mem)
    (subst (λ (c : Called). c.turn.written ≤ room) (call_plain r (length s) room p) (call_fits r 0 (length s) room p))

module _ {A : Type 0} (weigh : ℕ → List A → A) (r : Rate) (m room : ℕ) (p : Place) (mem : List A) where
  -- without magic samples nothing is done
  pub none_wrote : (out : List A) → m ≡ 0 → Wrote (play_magic weigh r m room p mem) (record { turn = still p; magic = m }) mem out out
  none_wrote out e =
      subst (λ (k : ℕ). Wrote (play_magic weigh r k room p mem) (record { turn = still p; magic = k }) mem out out) (sym e)
      (record { numbers = refl; mem = refl; out = paste-zero out 0 [] })

  -- no more is consumed than there are
  pub consumes : {t : Turn} {mid before after : List A} → Wrote (play_round weigh r m room p mem) t mid before after → t.consumed ≤ m
  consumes w = rw w.numbers (round_moves r m room p).consumed

  -- with some: the round, and those left moved down
  pub some_wrote : {t : Turn} {mid left before after : List A} → 0 < m → Wrote (play_round weigh r m room p mem) t mid before after
      → left ≡ paste mid (r.n - 1) (drop (r.n - 1 + t.consumed) mid) (m - t.consumed)
      → Wrote (play_magic weigh r m room p mem) (magic_told m t) left before after
  some_wrote {t} {mid} {left} {before} {after} = by m
    where
      by : (k : ℕ) → 0 < k → Wrote (play_round weigh r k room p mem) t mid before after
          → left ≡ paste mid (r.n - 1) (drop (r.n - 1 + t.consumed) mid) (k - t.consumed)
          → Wrote (play_magic weigh r k room p mem) (magic_told k t) left before after
      by zero h w e = absurd (not-suc-le-zero h)
      by (suc k) h w e = record {
        numbers = ap (magic_told (suc k)) w.numbers;
        mem =
            e
            ∙ ap₂ (λ (l : List A) (u : Turn). paste l (r.n - 1) (drop (r.n - 1 + u.consumed) l) (suc k - u.consumed)) w.mem w.numbers;
        out = w.out;
      }

  -- what the magic round plays
  abbrev first : Played Called A
  first = play_magic weigh r m room p mem

  -- and the rounds over the input that follow it
  abbrev following : List A → Played Turn A
  following s = play_rounds weigh r s (room - first.numbers.turn.written) first.numbers.turn.place first.mem

  as_many : length first.out ≡ first.numbers.turn.written
  as_many = by m
    where
      by : (k : ℕ) → length (play_magic weigh r k room p mem).out ≡ (play_magic weigh r k room p mem).numbers.turn.written
      by zero = refl
      by (suc k) = length_outputs weigh r mem (round r (suc k) room p).written p

  -- after the magic round of a call
  module _ {c : Called} {mid before out : List A} (w : Wrote (play_magic weigh r m room p mem) c mid before out) where
    told : c ≡ magic_round r m room p
    told = w.numbers ∙ magic_numbers weigh r m room p mem

    same_magic : first.numbers.magic ≡ c.magic
    same_magic = ap (λ (d : Called). d.magic) (sym w.numbers)

    pub written_fits : c.turn.written ≤ room
    written_fits = rw told (fits_room r room p m)

    pub phase_after_lem : 0 < r.den → p.phase < r.den → c.turn.place.phase < r.den
    phase_after_lem den h = rw told (phase_kept r room p den h m)

    pub position_after_lem : 0 < r.den → p.phase < r.den → r.num ≤ r.den * 2 ^ 32 → p.position ≤ 2 ^ 32 → c.turn.place.position ≤ 2 ^ 32
    position_after_lem den h slow k = rw told (position_kept r room p den h slow k m)

    -- with magic samples left the call ends
    pub left_wrote : (s : List A) → 0 < c.magic → Wrote (play_call weigh r m s room p mem) c mid before out
    left_wrote s h = subst (λ (g : Played Called A). Wrote g c mid before out) (sym (by c.magic h same_magic)) w
      where
        by : (k : ℕ) → 0 < k → first.numbers.magic ≡ k → play_call weigh r m s room p mem ≡ first
        by zero h e = absurd (not-suc-le-zero h)
        by (suc k) h e = play_call_left weigh r m s room k p mem e

    -- with none left the rounds over the input write into the rest of the output
    pub spent_wrote : (s : List A) {lent left part : List A} {u : Turn} → c.magic ≡ 0 → length out ≡ room → lent ≡ drop c.turn.written out
        → Wrote (play_rounds weigh r s (length lent) c.turn.place mid) u left lent part
        → Wrote (play_call weigh r m s room p mem)
        (plain (record { consumed = u.consumed; written = c.turn.written + u.written; place = u.place })) left before
        (take c.turn.written out ++ part)
    spent_wrote s {lent} {left} {part} {u} z l e v =
        subst (λ (d : Called). Wrote (play_call weigh r m s room p mem) d left before (take c.turn.written out ++ part)) counts
        (subst (λ (g : Played Called A). Wrote g (call_then c (plain u)) left before (take c.turn.written out ++ part))
        (sym (play_call_spent weigh r m s room p mem (same_magic ∙ z)))
        (then_wrote c.turn.written w number rest call_then))
      where
        counts : call_then c (plain u) ≡ plain (record { consumed = u.consumed; written = c.turn.written + u.written; place = u.place })
        counts =
            let none : c.turn.consumed + u.consumed ≡ u.consumed =
            omega (arith, ap (λ (d : Called). d.turn.consumed) told, (magic_moves r m room p).consumed) in
            ap (λ (x : ℕ). plain (record { consumed = x; written = c.turn.written + u.written; place = u.place })) none

        number : length first.out ≡ c.turn.written
        number = as_many ∙ ap (λ (d : Called). d.turn.written) (sym w.numbers)

        long : length lent ≡ room - c.turn.written
        long = ap length e ∙ length-drop c.turn.written out ∙ ap (λ (k : ℕ). k - c.turn.written) l

        same : play_rounds weigh r s (length lent) c.turn.place mid ≡ following s
        same =
            ap (λ (k : ℕ). play_rounds weigh r s k c.turn.place mid) long
            ∙ ap₂ (λ (d : Called) (x : List A). play_rounds weigh r s (room - d.turn.written) d.turn.place x) w.numbers w.mem

        rest : Wrote (plainly (following s)) (plain u) left (drop c.turn.written out) part
        rest =
            subst (λ (x : List A). Wrote (plainly (following s)) (plain u) left x part) e
            (subst (λ (g : Played Turn A). Wrote (plainly g) (plain u) left lent part) same
            (record { numbers = ap plain v.numbers; mem = v.mem; out = v.out }))

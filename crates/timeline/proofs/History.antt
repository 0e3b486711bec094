-- The history keeps its length and what lies from entry alloc on: every copy of a round, of the chunks and of the magic samples stays below.
-- Assumes nothing.
use mathlib.Core.Path.{◌≡◌, refl, ◌∙◌}
use mathlib.Core.List.{List, [], ◌∷◌}
use Prim.Native.Nat.{ℕ, zero, suc, ◌+◌, ◌-◌, ◌≤◌, min}
use native.Mathlib.Omega.{arith}
use lib.ListN.{length, drop, length-drop}
use lib.Seq.{paste, length-paste}
use Rattle.timeline.specs.Numbers.{Rate, Place, Called, Fit, chunk, round}
use Rattle.timeline.specs.Samples.{Played, play_round, play_chunk, play_rounds_up_to, play_magic, play_call}
use Rattle.timeline.specs.Laws.{KeptFrom}
use Rattle.timeline.proofs.Unrolled.{play_call_left, play_call_spent}
use Rattle.timeline.proofs.Parts.{drop_past}

module _ {A : Type 0} {from : ℕ} where
  pub kept_all : (mem : List A) → KeptFrom from mem mem
  kept_all mem = record { long = refl; excess = refl }

  pub kept_both : {a b c : List A} → KeptFrom from a b → KeptFrom from b c → KeptFrom from a c
  kept_both k l = record { long = l.long ∙ k.long; excess = l.excess ∙ k.excess }

  -- one copy that stays below
  pub paste_keeps : (d s : List A) (at k : ℕ) → from ≤ length d → at + k ≤ from → k ≤ length s → KeptFrom from d (paste d at s k)
  paste_keeps d s at k h f l = record {
    long = length-paste d at s k (omega arith) l;
    excess = drop_past d s at k from f (omega arith) l;
  }

module _ {A : Type 0} (r : Rate) where
  module _ (weigh : ℕ → List A → A) where
    pub round_keeps : (i room : ℕ) (p : Place) (mem : List A) → r.alloc ≤ length mem → r.n - 1 + i ≤ r.alloc
        → KeptFrom r.alloc mem (play_round weigh r i room p mem).mem
    round_keeps i room p mem h f =
        paste_keeps mem _ 0 (r.n - 1) h (omega arith) (omega (arith, length-drop (round r i room p).consumed mem))

    module _ (fit : Fit r) where
      pub chunk_keeps : (s : List A) (room : ℕ) (p : Place) (mem : List A) → r.alloc ≤ length mem
          → KeptFrom r.alloc mem (play_chunk weigh r s room p mem).mem
      chunk_keeps s room p mem h =
          let i = min (length s) (chunk r) in
          let f : r.n - 1 + i ≤ r.alloc = omega (arith, fit.alloc) in
          let a = paste_keeps mem s (r.n - 1) i h f (omega arith) in
          kept_both a (round_keeps i room p (paste mem (r.n - 1) s i) (omega (arith, a.long)) f)

      rounds_keep : (most : ℕ) (s : List A) (room : ℕ) (p : Place) (mem : List A) → r.alloc ≤ length mem
          → KeptFrom r.alloc mem (play_rounds_up_to weigh most r s room p mem).mem
      rounds_keep zero s room p mem h = kept_all mem
      rounds_keep (suc most) [] room p mem h = kept_all mem
      rounds_keep (suc most) (x ∷ xs) zero p mem h = kept_all mem
      rounds_keep (suc most) (x ∷ xs) (suc room) p mem h =
          let g = play_chunk weigh r (x ∷ xs) (suc room) p mem in
          let t = g.numbers in
          let a = chunk_keeps (x ∷ xs) (suc room) p mem h in
          kept_both a (rounds_keep most (drop t.consumed (x ∷ xs)) (suc room - t.written) t.place g.mem (omega (arith, a.long)))

    pub magic_keeps : (m room : ℕ) (p : Place) (mem : List A) → r.alloc ≤ length mem → r.n - 1 + m ≤ r.alloc
        → KeptFrom r.alloc mem (play_magic weigh r m room p mem).mem
    magic_keeps zero room p mem h f = kept_all mem
    magic_keeps (suc m) room p mem h f =
        let g = play_round weigh r (suc m) room p mem in
        let c = g.numbers.consumed in
        let a = round_keeps (suc m) room p mem h f in
        kept_both a
        (paste_keeps g.mem _ (r.n - 1) (suc m - c) (omega (arith, a.long)) (omega arith)
        (simp length-drop (omega (arith, a.long))))

    pub call_keeps : Fit r → (m : ℕ) (s : List A) (room : ℕ) (p : Place) (mem : List A) → r.alloc ≤ length mem → r.n - 1 + m ≤ r.alloc
        → KeptFrom r.alloc mem (play_call weigh r m s room p mem).mem
    call_keeps fit m s room p mem h f = by (play_magic weigh r m room p mem).numbers.magic refl
      where
        first : Played Called A
        first = play_magic weigh r m room p mem

        a : KeptFrom r.alloc mem first.mem
        a = magic_keeps m room p mem h f

        by : (left : ℕ) → first.numbers.magic ≡ left → KeptFrom r.alloc mem (play_call weigh r m s room p mem).mem
        by zero e =
            rw (play_call_spent weigh r m s room p mem e)
            (kept_both a
            (rounds_keep fit (length s) s (room - first.numbers.turn.written) first.numbers.turn.place first.mem
            (omega (arith, a.long))))
        by (suc left) e = rw (play_call_left weigh r m s room left p mem e) a

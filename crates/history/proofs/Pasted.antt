-- A loop that writes the first entries of s to entry `at` of d on, one store a turn, the lowest first.
--     starts, goes_on, ends        before the first turn, over one turn, after the last
--     get_or-paste_low, -high        an entry below and above what was written
-- Assumes nothing.
use mathlib.Core.Path.{◌≡◌, refl, sym, ap, ◌∙◌}
use mathlib.Core.List.{List, ◌++◌}
use Prim.Native.Nat.{ℕ, ◌+◌, ◌-◌, ◌≤◌, ◌<◌}
use native.Mathlib.Numerals.{add-one}
use native.Mathlib.Omega.{arith}
use lib.ListN.{length, take, drop, set, get_or, length-set, get_or-append}
use lib.Seq.{paste, paste-zero, paste-suc, length_paste_head, drop-paste, length-take-le, get_or-take, get_or-drop}

-- i entries of count are written
pub record Pasted {A : Type 0} (d : List A) (at : ℕ) (s : List A) (count : ℕ) (mem : List A) (i : ℕ) : Type 0 where
  pub within : i ≤ count
  pub same : length mem ≡ length d
  pub so_far : mem ≡ paste d at s i

module _ {A : Type 0} (d : List A) (at : ℕ) (s : List A) (count : ℕ) where
  pub starts : Pasted d at s count d 0
  starts = record { within = omega arith; same = refl; so_far = paste-zero d at s }

  module _ {mem : List A} {i : ℕ} (p : Pasted d at s count mem i) where
    pub goes_on : (z : A) {v : A} → v ≡ get_or s i z → i < count → at + count ≤ length d → count ≤ length s
        → Pasted d at s count (set mem (at + i) v) (i + 1)
    goes_on z {v} e h l k =
        record {
          within = omega arith;
          same = length-set mem (at + i) v ∙ p.same;
          so_far = rw (p.so_far, e, add-one i) (paste-suc d at s i z (omega arith) (omega arith));
        }

    pub ends : count ≤ i → mem ≡ paste d at s count
    ends h =
        let e : i ≡ count = omega arith in
        rw (← e) p.so_far

module _ {A : Type 0} (d : List A) (at : ℕ) (s : List A) (i : ℕ) (z : A) (fits : at + i ≤ length d) (long : i ≤ length s) where
  pub get_or-paste_low : (k : ℕ) → k < at → get_or (paste d at s i) k z ≡ get_or d k z
  get_or-paste_low k h =
      let l : length (take at d) ≡ at = length-take-le at d (omega arith) in
      get_or-append (take at d ++ take i s) (drop (at + i) d) z k (omega (arith, length_paste_head d at s i (omega arith) long))
      ∙ get_or-append (take at d) (take i s) z k (omega arith)
      ∙ get_or-take at d k z h

  pub get_or-paste_high : (k : ℕ) → at + i ≤ k → get_or (paste d at s i) k z ≡ get_or d k z
  get_or-paste_high k h =
      let e : at + i + (k - (at + i)) ≡ k = omega arith in
      ap (λ (j : ℕ). get_or (paste d at s i) j z) (sym e)
      ∙ sym (get_or-drop (at + i) (paste d at s i) (k - (at + i)) z)
      ∙ ap (λ (l : List A). get_or l (k - (at + i)) z) (drop-paste d at s i (omega arith) long)
      ∙ get_or-drop (at + i) d (k - (at + i)) z
      ∙ ap (λ (j : ℕ). get_or d j z) e

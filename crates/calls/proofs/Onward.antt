-- One thing written into the lent output, and then another into the rest of it from where the first ended. Assumes nothing.
use mathlib.Core.Path.{◌≡◌, sym, ◌∙◌, ap, ap₂}
use mathlib.Core.List.{List, ◌++◌, append_assoc, append-nil}
use Prim.Native.Nat.{ℕ, ◌+◌, ◌-◌, ◌≤◌}
use native.Mathlib.Nat.{zero-add, le_of_eq, le_refl}
use lib.ListN.{length, take, drop, drop_of_length-le, length-drop, length-append}
use lib.Seq.{paste, length-paste, take-length, take_at, drop_at, drop-drop}
use Rattle.timeline.specs.Samples.{Played, play_then}
use Rattle.rounds.specs.Rounds.{Wrote}

module _ {A : Type 0} where
  -- the rest of a slice from entry k on, as it comes back
  pub put_back : (k : ℕ) (l part : List A) → take k l ++ (part ++ drop (length l - k) (drop k l)) ≡ take k l ++ part
  put_back k l part =
      ap (λ (x : List A). take k l ++ (part ++ x)) (drop_of_length-le (drop k l) (le_of_eq (length-drop k l)))
      ∙ ap (λ (x : List A). take k l ++ x) (append-nil part)

  -- a list laid over the front of another
  laid_over_lem : (d s : List A) → paste d 0 s (length s) ≡ s ++ drop (length s) d
  laid_over_lem d s = rw (zero-add (length s), take-length s)

  -- what is written within the output leaves it as long
  pub as_long : {N : Type 0} {h : Played N A} {t : N} {left before after : List A} → Wrote h t left before after → length h.out ≤ length before
      → length after ≡ length before
  as_long {h = h} {before = before} w f =
      ap length w.out ∙ length-paste before 0 h.out (length h.out) (rw (zero-add (length h.out)) f) (le_refl (length h.out))

  module _ {N : Type 0} {h g : Played N A} {t u : N} {left left' before mid part : List A} (k : ℕ)
      (w : Wrote h t left before mid) (e : length h.out ≡ k) (v : Wrote g u left' (drop k mid) part) where
    first : mid ≡ h.out ++ drop k before
    first = w.out ∙ laid_over_lem before h.out ∙ ap (λ (j : ℕ). h.out ++ drop j before) e

    front : take k mid ≡ h.out
    front = ap (take k) first ∙ take_at h.out (drop k before) k e

    back : drop k mid ≡ drop k before
    back = ap (drop k) first ∙ drop_at h.out (drop k before) k e

    second : part ≡ g.out ++ drop (k + length g.out) before
    second =
        v.out ∙ laid_over_lem (drop k mid) g.out
        ∙ ap (λ (l : List A). g.out ++ drop (length g.out) l) back
        ∙ ap (λ (l : List A). g.out ++ l) (drop-drop (length g.out) k before)

    long : length (h.out ++ g.out) ≡ k + length g.out
    long = length-append h.out g.out ∙ ap (λ (j : ℕ). j + length g.out) e

    -- `add` puts the numbers of the two together
    pub then_wrote : (add : N → N → N) → Wrote (play_then add h g) (add t u) left' before (take k mid ++ part)
    then_wrote add = record {
      numbers = ap₂ add w.numbers v.numbers;
      mem = v.mem;
      out =
          ap₂ (λ (x y : List A). x ++ y) front second
          ∙ sym (append_assoc h.out g.out (drop (k + length g.out) before))
          ∙ ap (λ (j : ℕ). (h.out ++ g.out) ++ drop j before) (sym long)
          ∙ sym (laid_over_lem before (h.out ++ g.out));
    }

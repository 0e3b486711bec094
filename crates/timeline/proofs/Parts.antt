-- Facts on parts of lists that the library lacks. Assumes nothing.
use mathlib.Core.Path.{◌≡◌, refl, sym, ◌∙◌, ap}
use mathlib.Core.List.{List, [], ◌∷◌, ◌++◌}
use Prim.Native.Nat.{ℕ, zero, suc, ◌+◌, ◌-◌, ◌≤◌, ◌<◌}
use native.Mathlib.Nat.{zero-add, suc-add, sub-zero, zero-sub, suc-sub-suc, not-suc-le-zero, le_of_suc-le-suc}
use native.Mathlib.Omega.{arith}
use lib.ListN.{length, take, drop, replicate, get_or}
use lib.Seq.{paste, take-nil, drop-nil, take-take, drop-drop, get_or-take, take-paste, drop-paste}

module _ {A : Type 0} where
  take-drop : (n at : ℕ) (l : List A) → take n (drop at l) ≡ drop at (take (at + n) l)
  take-drop n zero l = ap (λ (k : ℕ). take k l) (sym (zero-add n))
  take-drop n (suc at) [] = take-nil n ∙ sym (ap (drop (suc at)) (take-nil (suc at + n)))
  take-drop n (suc at) (x ∷ xs) = take-drop n at xs ∙ sym (ap (λ (k : ℕ). drop (suc at) (take k (x ∷ xs))) (suc-add at n))

  -- a window that ends within the first m entries depends on those alone
  pub same_window : (m n at : ℕ) (a b : List A) → at + n ≤ m → take m a ≡ take m b → take n (drop at a) ≡ take n (drop at b)
  same_window m n at a b h e =
      take-drop n at a
      ∙ ap (drop at) (sym (take-take (at + n) m a h) ∙ ap (take (at + n)) e ∙ take-take (at + n) m b h)
      ∙ sym (take-drop n at b)

  pub take-replicate : (k m : ℕ) (a : A) → k ≤ m → take k (replicate m a) ≡ replicate k a
  take-replicate zero m a h = refl
  take-replicate (suc k) zero a h = absurd (not-suc-le-zero h)
  take-replicate (suc k) (suc m) a h = ap (λ (l : List A). a ∷ l) (take-replicate k m a (le_of_suc-le-suc h))

  pub take-append : (k : ℕ) (l m : List A) → take k (l ++ m) ≡ take k l ++ take (k - length l) m
  take-append k [] m = rw (sub-zero k, take-nil k)
  take-append zero (x ∷ xs) m = rw (zero-sub (suc (length xs)))
  take-append (suc k) (x ∷ xs) m = rw (suc-sub-suc k (length xs)) (ap (λ (l : List A). x ∷ l) (take-append k xs m))

  pub drop-append : (k : ℕ) (l m : List A) → drop k (l ++ m) ≡ drop k l ++ drop (k - length l) m
  drop-append k [] m = rw (sub-zero k, drop-nil k)
  drop-append zero (x ∷ xs) m = rw (zero-sub (suc (length xs)))
  drop-append (suc k) (x ∷ xs) m = rw (suc-sub-suc k (length xs)) (drop-append k xs m)

  -- entries pasted at the front
  pub take_front : (d s : List A) (k : ℕ) → k ≤ length s → take k (paste d 0 s k) ≡ take k s
  take_front d s k h = ap (λ (j : ℕ). take j (paste d 0 s k)) (sym (zero-add k)) ∙ take-paste d 0 s k (omega arith) h

  pub get_d_front : (d s : List A) (k j : ℕ) (z : A) → k ≤ length s → j < k → get_or (paste d 0 s k) j z ≡ get_or s j z
  get_d_front d s k j z h l =
      sym (get_or-take k (paste d 0 s k) j z l) ∙ ap (λ (t : List A). get_or t j z) (take_front d s k h) ∙ get_or-take k s j z l

  -- what lies past the pasted entries stays
  pub drop_past : (d s : List A) (at k j : ℕ) → at + k ≤ j → at ≤ length d → k ≤ length s → drop j (paste d at s k) ≡ drop j d
  drop_past d s at k j h hd hs =
      let more = j - (at + k) in
      let e : j ≡ at + k + more = omega arith in
      ap (λ (x : ℕ). drop x (paste d at s k)) e
      ∙ sym (drop-drop more (at + k) (paste d at s k))
      ∙ ap (drop more) (drop-paste d at s k hd hs)
      ∙ drop-drop more (at + k) d
      ∙ ap (λ (x : ℕ). drop x d) (sym e)

-- The list f 0, f 1, .., f (count - 1): its length and its entries. Assumes nothing.
use mathlib.Core.Path.{◌≡◌, refl, ap, ◌∙◌}
use mathlib.Core.List.{[], ◌∷◌}
use mathlib.Core.Logic.{inl, inr}
use Prim.Native.Nat.{ℕ, zero, suc, ◌+◌, ◌<◌}
use native.Mathlib.Nat.{not-suc-le-zero, le_of_suc-le-suc, eq-or-lt_of_le}
use native.Mathlib.Numerals.{add-one}
use lib.ListN.{length, get_or, length-append, get_or-append}
use lib.Seq.{get_or_at}
use lib.Ieee.{Float}
use Rattle.filter.specs.Tables.{entries}

pub length_entries : (f : ℕ → Float) (count : ℕ) → length (entries f count) ≡ count
unfolding entries
length_entries f zero = refl
length_entries f (suc k) = length-append (entries f k) (f k ∷ []) ∙ ap (λ (n : ℕ). n + 1) (length_entries f k) ∙ add-one k

-- entry k is f k
pub get_or_entries : (f : ℕ → Float) (count k : ℕ) (z : Float) → k < count → get_or (entries f count) k z ≡ f k
unfolding entries
get_or_entries f zero k z h = absurd (not-suc-le-zero h)
get_or_entries f (suc c) k z h = elim (eq-or-lt_of_le (le_of_suc-le-suc h)) [
  | inl e ↦ rw e (get_or_at (entries f c) (f c) [] z c (length_entries f c))
  | inr l ↦ get_or-append (entries f c) (f c ∷ []) z k (rw (length_entries f c) l) ∙ get_or_entries f c k z l
]

-- `closest a b`, the whole number nearest to a / b, by the three ways in which twice the remainder compares with b, and by the one test of `nearest_quotient`.
-- Assumes nothing.
use mathlib.Core.Path.{◌≡◌, refl, sym, ap, ◌∙◌, subst}
use mathlib.Core.Bool.{not}
use mathlib.Core.Logic.{◌⊎◌, inl, inr}
use Prim.Native.Nat.{ℕ, suc, ◌+◌, ◌*◌, ◌/◌, ◌%◌, ◌≤◌, ◌<◌, compare, Ordering}
use native.Mathlib.Decide.{dec_lt}
use native.Mathlib.Nat.{le_of_lt, lt_irrefl, div-eq_of_lt, mod-eq_of_lt}
use native.Mathlib.Omega.{arith}
use lib.Dec.{T, is_le, compare_is_eq, eqb, le→leb, eqb→eq, eqb_refl}
use lib.Arith.{lt→nleb}
use lib.Ieee.{nearest}
use lib.Ieee.Nearest.{closest, nearest-ge}
use lib.Ieee.Fits.{nearest-le}

-- ---- what `compare` answers
is_lt : (a b : ℕ) → a < b → compare a b ≡ Ordering.lt
is_lt a b h = go (compare a b) (le→leb a b (le_of_lt h)) (λ t. lt_irrefl b (subst (λ (x : ℕ). x < b) (eqb→eq a b t) h))
  where
    go : (o : Ordering) → T (is_le o) → (T (compare_is_eq o) → ⊥) → o ≡ Ordering.lt
    go Ordering.lt l n = refl
    go Ordering.eq l n = absurd (n tt)
    go Ordering.gt l n = absurd l

is_gt : (a b : ℕ) → b < a → compare a b ≡ Ordering.gt
is_gt a b h = go (compare a b) (lt→nleb a b h)
  where
    go : (o : Ordering) → T (not (is_le o)) → o ≡ Ordering.gt
    go Ordering.lt n = absurd n
    go Ordering.eq n = absurd n
    go Ordering.gt n = refl

is_eq : (a b : ℕ) → a ≡ b → compare a b ≡ Ordering.eq
is_eq a b h = go (compare a b) (subst (λ (x : ℕ). T (eqb a x)) h (eqb_refl a))
  where
    go : (o : Ordering) → T (compare_is_eq o) → o ≡ Ordering.eq
    go Ordering.lt e = absurd e
    go Ordering.eq e = refl
    go Ordering.gt e = absurd e

-- a < b, or not
pub below_or_not : (a b : ℕ) → (a < b) ⊎ (b ≤ a)
below_or_not a b = go (dec_lt a b)
  where
    go : Dec (a < b) → (a < b) ⊎ (b ≤ a)
    go (yes h) = inl h
    go (no h) = inr (omega arith)

-- ---- the three ways
under_half : (a b : ℕ) → a % b * 2 < b → a / b ≡ closest a b
under_half a b h = sym (ap (nearest (a / b)) (is_lt (a % b * 2) b h))

over_half : (a b : ℕ) → b < a % b * 2 → suc (a / b) ≡ closest a b
over_half a b h = sym (ap (nearest (a / b)) (is_gt (a % b * 2) b h))

half : (a b : ℕ) → a % b * 2 ≡ b → a / b + a / b % 2 ≡ closest a b
half a b h = sym (ap (nearest (a / b)) (is_eq (a % b * 2) b h))

-- ---- how far it lies from the quotient
-- less than a half goes to 0
pub tiny : (a b : ℕ) → a * 2 < b → closest a b ≡ 0
tiny a b h =
    let l : a < b = omega arith in
    sym (under_half a b (subst (λ (x : ℕ). x * 2 < b) (sym (mod-eq_of_lt l)) h)) ∙ div-eq_of_lt l

pub closest_ge : (a b : ℕ) → a / b ≤ closest a b
closest_ge a b = nearest-ge (a / b) (compare (a % b * 2) b)

pub closest_le : (a b : ℕ) → closest a b ≤ suc (a / b)
closest_le a b = nearest-le (a / b) (compare (a % b * 2) b)

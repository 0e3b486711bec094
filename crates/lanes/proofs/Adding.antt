-- One more coefficient of sums that stand side by side.
--     sums_at                                  a four of the sums
--     added_all                                one coefficient for all fours
--     sums_silent, sums_none, sums_more        no coefficient, and one more
-- Assumes nothing.
use mathlib.Core.Path.{◌≡◌, refl, sym, ap, ◌∙◌}
use mathlib.Core.List.{List, [], ◌∷◌}
use Prim.Native.Nat.{ℕ, zero, suc, ◌+◌, ◌*◌, ◌≤◌, ◌<◌}
use native.Mathlib.Nat.{add_assoc, add-zero}
use native.Mathlib.Numerals.{add-one}
use native.Mathlib.Omega.{arith}
use lib.ListN.{length, get_or, replicate}
use lib.Ieee.{Float, of_bits, binary32}
use Rattle.std.proofs.lemmas.List.{ext_get_or}
use Rattle.math.specs.Numerals.{nought}
use Rattle.math.specs.Operators.{◌+ᶠ◌, ◌*ᶠ◌}
use Rattle.kernel.specs.Interpolated.{spread}
use Rattle.kernel.specs.Sums.{at, sum_to}
use Rattle.lanes.specs.Inner.{spot, lane_sum, fours, sums_of, add_tap}

-- ---- fours

-- equal sums have equal fours
fours_same : {f g : ℕ → Float} → ((l : ℕ) → f l ≡ g l) → fours f ≡ fours g
fours_same h = rw (h 0, h 1, h 2, h 3) refl

sums_same : (q : ℕ) {f g : ℕ → Float} → ((l : ℕ) → f l ≡ g l) → sums_of q f ≡ sums_of q g
sums_same zero h = refl
sums_same (suc q) h = rw (fours_same h, sums_same q (λ l. h (4 + l))) refl

-- four q
pub sums_at : (q j : ℕ) (f : ℕ → Float) → j < q → get_or (sums_of q f) j [] ≡ fours (λ l. f (4 * j + l))
sums_at zero j f h = absurd (omega arith)
sums_at (suc q) zero f h = refl
sums_at (suc q) (suc j) f h = sums_at q j (λ l. f (4 + l)) (omega arith) ∙ fours_same (λ l. let e : 4 + (4 * j + l) ≡ 4 * suc j + l = omega arith in ap f e)

-- ---- one coefficient

taps_long : (s : List (List Float)) (k : Float) (x : List Float) (i : ℕ) → length (add_tap s k x i) ≡ length s
taps_long [] k x i = refl
taps_long (a ∷ r) k x i = ap suc (taps_long r k x (i + 4))

taps_at : (s : List (List Float)) (k : Float) (x : List Float) (i j : ℕ) → j < length s
    → get_or (add_tap s k x i) j [] ≡ spread (get_or s j []) k x (i + 4 * j)
taps_at [] k x i j h = absurd (omega arith)
taps_at (a ∷ r) k x i zero h = ap (spread a k x) (omega arith)
taps_at (a ∷ r) k x i (suc j) h = taps_at r k x (i + 4) j (omega arith) ∙ ap (spread (get_or r j []) k x) (omega arith)

-- the first q fours have it
pub record Added (before after : List (List Float)) (k : Float) (x : List Float) (i q : ℕ) : Type 0 where
  pub long : length after ≡ length before
  pub these : (j : ℕ) → j < q → get_or after j [] ≡ spread (get_or before j []) k x (i + 4 * j)
  pub others : (j : ℕ) → q ≤ j → get_or after j [] ≡ get_or before j []

-- all of them have it
pub added_all : {before after : List (List Float)} {k : Float} {x : List Float} {i q : ℕ} → Added before after k x i q → length before ≡ q
    → after ≡ add_tap before k x i
added_all {before} {after} {k} {x} {i} a e =
    ext_get_or [] after (add_tap before k x i) (a.long ∙ sym (taps_long before k x i))
    (λ j h. a.these j (omega (arith, a.long)) ∙ sym (taps_at before k x i j (omega (arith, a.long))))

-- products further on
sums_on : (q : ℕ) (f : ℕ → Float) (k : Float) (x : List Float) (i : ℕ)
    → sums_of q (λ l. f (4 + l) +ᶠ k *ᶠ at x (i + 4 + l)) ≡ sums_of q (λ l. f (4 + l) +ᶠ k *ᶠ at x (i + (4 + l)))
sums_on q f k x i = sums_same q (λ l. ap (λ (e : ℕ). f (4 + l) +ᶠ k *ᶠ at x e) (add_assoc i 4 l))

-- sums get one product more
sums_tap : (q : ℕ) (f : ℕ → Float) (k : Float) (x : List Float) (i : ℕ) → add_tap (sums_of q f) k x i ≡ sums_of q (λ l. f l +ᶠ k *ᶠ at x (i + l))
sums_tap zero f k x i = refl
sums_tap (suc q) f k x i = rw (sums_tap q (λ l. f (4 + l)) k x (i + 4), sums_on q f k x i, add-zero i) refl

-- ---- all coefficients

-- sums of nothing
pub sums_silent : (q : ℕ) → replicate q (of_bits binary32 0 ∷ of_bits binary32 0 ∷ of_bits binary32 0 ∷ of_bits binary32 0 ∷ []) ≡ sums_of q (λ l. nought)
unfolding of_bits
sums_silent zero = refl
sums_silent (suc q) = ap (λ (r : List (List Float)). fours (λ l. nought) ∷ r) (sums_silent q)

-- q fours of sums of j coefficients, the first at `column`
pub record Summed (q num stride j : ℕ) (coefs x : List Float) (row column : ℕ) (s : List (List Float)) : Type 0 where
  pub sums : s ≡ sums_of q (λ l. lane_sum num stride j coefs x row (column + l))

module _ {q num stride : ℕ} {coefs x : List Float} {row column : ℕ} where
  pub sums_none : {s : List (List Float)} → s ≡ sums_of q (λ l. nought) → Summed q num stride 0 coefs x row column s
  unfolding sum_to
  sums_none e = record { sums = e }

  pub sums_more : {j i : ℕ} {s r : List (List Float)} → Summed q num stride j coefs x row column s → i ≡ spot num stride (row + j) + column
      → r ≡ add_tap s (at coefs j) x i → Summed q num stride (j + 1) coefs x row column r
  unfolding sum_to
  sums_more {j} {i} h e g =
      record {
        sums =
            g
            ∙ ap (λ (v : List (List Float)). add_tap v (at coefs j) x i) h.sums
            ∙ sums_tap q (λ l. lane_sum num stride j coefs x row (column + l)) (at coefs j) x i
            ∙ sums_same q (λ l. rw (e, add-one j, add_assoc (spot num stride (row + j)) column l) refl);
      }

-- An output goes by the first n samples of its window, a NaN among those makes it a NaN, and of the table it goes by the coefficients that its phase
-- reaches. Assumes nothing.
use Rattle.std.proofs.Common.{◌≡◌, ℕ, zero, suc, ◌+◌, ◌*◌, ◌<◌, ◌≤◌, List, [], ◌∷◌, take, drop, sym, refl, ap, ◌∙◌, inl, inr, arith, get_or-drop, get_or-take}
use lib.Ieee.{Float, nan, binary32, add, mul}
use Rattle.math.specs.Operators.{◌*ᶠ◌}
use Rattle.math.proofs.Closest.{below_or_not}
use Rattle.math.proofs.Nan.{add_nan, mul_nan}
use Rattle.kernel.specs.Sums.{at, sum_to}
use Rattle.kernel.specs.Cubic.{cubic_coef}
use Rattle.kernel.specs.Interpolated.{tap, TapsWithin, spread, four_sums, folded}
use Rattle.kernel.specs.Step.{step_of, Reaches}
use Rattle.kernel.specs.declared.Phase.{Phase}
use Rattle.kernel.specs.declared.Phase.TheVariants.{Direct, Interpolated}
use Rattle.kernel.proofs.Turns.{entries_within}

-- sums of equal summands
sum_local : (n : ℕ) (f g : ℕ → Float) → ((j : ℕ) → j < n → f j ≡ g j) → sum_to n f ≡ sum_to n g
unfolding sum_to
sum_local zero f g h = refl
sum_local (suc n) f g h = rw (sum_local n f g (λ j l. h j (omega arith)), h n (omega arith))

-- and four of them
four_local : (oversample offset n : ℕ) (coefs window other : List Float) → ((j : ℕ) → j < n → at window j ≡ at other j)
    → four_sums oversample offset n coefs window ≡ four_sums oversample offset n coefs other
unfolding four_sums
four_local oversample offset zero coefs window other h = refl
four_local oversample offset (suc n) coefs window other h =
    rw (four_local oversample offset n coefs window other (λ j l. h j (omega arith)), h n (omega arith))

-- two windows with the same first n samples give the same output
step_local : (phase : Phase) (n oversample : ℕ) (coefs window other : List Float) → ((j : ℕ) → j < n → at window j ≡ at other j)
    → step_of phase n oversample coefs window ≡ step_of phase n oversample coefs other
unfolding step_of
step_local (Direct row) n oversample coefs window other h = sum_local n _ _ (λ j l. rw (h j l))
step_local (Interpolated offset f) n oversample coefs window other h =
    ap (folded (cubic_coef f)) (four_local oversample offset n coefs window other h)

-- so the window may as well be cut to n samples
pub step_window : (phase : Phase) (n oversample : ℕ) (coefs window : List Float)
    → step_of phase n oversample coefs (take n window) ≡ step_of phase n oversample coefs window
step_window phase n oversample coefs window = step_local phase n oversample coefs (take n window) window (λ j l. get_or-take n window j nan l)

-- one NaN among the summands makes the sum a NaN
sum_nan : (n j : ℕ) (f : ℕ → Float) → j < n → f j ≡ nan → sum_to n f ≡ nan
unfolding sum_to add
sum_nan zero j f l e = absurd (omega arith)
sum_nan (suc n) j f l e = elim (below_or_not j n) [
  | inl b ↦ rw (sum_nan n j f b e)
  | inr g ↦ let last : n ≡ j = omega arith in rw (last, e) (add_nan binary32 (sum_to j f))
]

-- four sums that are NaNs
abbrev nans : List Float
nans = nan ∷ nan ∷ nan ∷ nan ∷ []

-- a sample that is a NaN makes them so, whatever they were
spread_nan : (s coefs : List Float) (i : ℕ) → spread s nan coefs i ≡ nans
unfolding mul
spread_nan s coefs i = rw (add_nan binary32 (at s 0), add_nan binary32 (at s 1), add_nan binary32 (at s 2), add_nan binary32 (at s 3))

-- and they stay so, whatever comes after
nans_spread : (x : Float) (coefs : List Float) (i : ℕ) → spread nans x coefs i ≡ nans
unfolding add
nans_spread x coefs i = refl

-- so one NaN among the samples is enough
four_nan : (oversample offset n j : ℕ) (coefs window : List Float) → j < n → at window j ≡ nan → four_sums oversample offset n coefs window ≡ nans
unfolding four_sums
four_nan oversample offset zero j coefs window l e = absurd (omega arith)
four_nan oversample offset (suc n) j coefs window l e = elim (below_or_not j n) [
  | inl b ↦ rw (four_nan oversample offset n j coefs window b e) (nans_spread (at window n) coefs (tap oversample offset n))
  | inr g ↦
      let last : n ≡ j = omega arith in
      rw (last, e) (spread_nan (four_sums oversample offset j coefs window) coefs (tap oversample offset j))
]

-- a NaN among the first n samples of the window makes the output a NaN
pub step_nan : (phase : Phase) (n oversample j : ℕ) (coefs window : List Float) → j < n → at window j ≡ nan
    → step_of phase n oversample coefs window ≡ nan
unfolding step_of folded
step_nan (Direct row) n oversample j coefs window l e = sum_nan n j _ l (rw e (mul_nan binary32 _))
step_nan (Interpolated offset f) n oversample j coefs window l e =
    rw (four_nan oversample offset n j coefs window l e, mul_nan binary32 (at (cubic_coef f) 3)) (add_nan binary32 _)

-- a row of n entries from a on lies within the table, so two tables alike have the same row
row_table : (a n : ℕ) (coefs other : List Float) {size : ℕ} → a + n ≤ size → ((j : ℕ) → j < size → at coefs j ≡ at other j)
    → (j : ℕ) → j < n → at (drop a coefs) j ≡ at (drop a other) j
row_table a n coefs other within h j l =
    get_or-drop a coefs j nan ∙ h (a + j) (omega arith) ∙ sym (get_or-drop a other j nan)

-- one sample's four products go by the entries up to i + 3
spread_table : (s coefs other : List Float) (x : Float) (i : ℕ) → ((j : ℕ) → j < i + 4 → at coefs j ≡ at other j)
    → spread s x coefs i ≡ spread s x other i
spread_table s coefs other x i h = rw (h i (omega arith), h (i + 1) (omega arith), h (i + 2) (omega arith), h (i + 3) (omega arith))

-- the four sums over the first m of the n samples whose entries the table holds
four_table : (oversample offset n m : ℕ) (coefs other window : List Float) {size : ℕ} → TapsWithin n oversample offset size → m ≤ n
    → ((j : ℕ) → j < size → at coefs j ≡ at other j) → four_sums oversample offset m coefs window ≡ four_sums oversample offset m other window
unfolding four_sums
four_table oversample offset n zero coefs other window within l h = refl
four_table oversample offset n (suc m) coefs other window within l h =
    ap (λ s. spread s (at window m) coefs (tap oversample offset m)) (four_table oversample offset n m coefs other window within (omega arith) h)
    ∙ spread_table (four_sums oversample offset m other window) coefs other (at window m) (tap oversample offset m)
    (λ j b. h j (omega (arith, within, entries_within oversample {j = m} {n = n} l)))

-- two tables with the same coefficients as far as the phase reaches give the same output
pub step_table : (phase : Phase) (n oversample size : ℕ) (coefs other window : List Float) → Reaches phase n oversample size
    → ((j : ℕ) → j < size → at coefs j ≡ at other j) → step_of phase n oversample coefs window ≡ step_of phase n oversample other window
unfolding step_of
step_table (Direct row) n oversample size coefs other window within h =
    sum_local n _ _ (λ j l. ap (λ (x : Float). x *ᶠ at window j) (row_table (row * n) n coefs other within h j l))
step_table (Interpolated offset f) n oversample size coefs other window within h =
    ap (folded (cubic_coef f)) (four_table oversample offset n n coefs other window within (omega arith) h)

-- No coordinate of a table is a NaN: it is a number to which finite ones are added, or from which they are taken. Each whole number and each quotient in it is finite, being at most 2 ^ 24 in size.
-- Assumes nothing.
use mathlib.Core.Path.{◌≡◌, sym, subst}
use mathlib.Core.Bool.{Bool, true, false, cond}
use Prim.Native.Nat.{ℕ, suc, ◌-◌, ◌^◌, ◌≤◌, ◌<◌}
use native.Mathlib.Omega.{arith}
use lib.Dec.{ltb, lit≤, lit<}
use lib.IntN.{pos, negsuc, ◌-ℤ◌}
use lib.Ieee.{Float, binary32, round, of_int, is_nan}
use lib.Ieee.Back.{round_whole}
use lib.Ieee.Exact.{HasValue}
use lib.Ieee.Scale.{finite}
use Rattle.math.specs.Numerals.{as_f32}
use Rattle.math.specs.Operators.{◌/ᶠ◌}
use Rattle.math.specs.Sign.{magnitude}
use Rattle.math.proofs.Rounded.{AtMost, round_at_most}
use Rattle.math.proofs.Sign.{round_magnitude}
use Rattle.math.proofs.Bounded.{bounded_finite, div_at_most}
use Rattle.math.proofs.Real.{finite_real, add_real, sub_real}
use Rattle.filter.specs.Tables.{direct_x, interpolated_x}

-- ---- at most 2 ^ 24 in size
abbrev Small : Float → Type 0
Small x = AtMost (magnitude x) (2 ^ 24) 1

small_finite : (x : Float) → Small x → finite x ≡ true
small_finite x h = bounded_finite x (2 ^ 24) 1 h

top : HasValue (round binary32 false (2 ^ 24) 1) false (2 ^ 24) 1
top = round_whole binary32 false (2 ^ 24) (lit≤ tt)

round_small : (s : Bool) (k : ℕ) → k ≤ 2 ^ 24 → Small (round binary32 s k 1)
round_small s k h =
    subst (λ (y : Float). AtMost y (2 ^ 24) 1) (sym (round_magnitude binary32 s k 1))
    (round_at_most binary32 k 1 (2 ^ 24) 1 (lit< tt) (lit< tt) top (omega arith))

-- ---- a whole number, i - 4, and what is small over a whole number
whole_small : (k : ℕ) → k ≤ 2 ^ 24 → Small (as_f32 k)
unfolding of_int
whole_small k h = round_small false k h

shifted_small : (i : ℕ) → i ≤ 2 ^ 24 → Small (of_int binary32 (pos i -ℤ pos 4))
unfolding of_int
shifted_small i h = go (ltb i 4)
  where
    go : (b : Bool) → Small (of_int binary32 (cond b (negsuc (4 - suc i)) (pos (i - 4))))
    go true = round_small true (suc (4 - suc i)) (omega arith)
    go false = round_small false (i - 4) (omega arith)

over_small : (x : Float) (m : ℕ) → 0 < m → m ≤ 2 ^ 24 → Small x → Small (x /ᶠ as_f32 m)
unfolding of_int
over_small x m some few h = div_at_most binary32 x (as_f32 m) (2 ^ 24) 1 m (2 ^ 24) 1 (lit< tt) some (lit< tt) top h (round_whole binary32 false m few) (omega arith)

-- ---- n/2, and a quotient of whole numbers
quotient_finite : (k m : ℕ) → 0 < m → k ≤ 2 ^ 24 → m ≤ 2 ^ 24 → finite (as_f32 k /ᶠ as_f32 m) ≡ true
quotient_finite k m some h few = small_finite _ (over_small (as_f32 k) m some few (whole_small k h))

half_finite : (n : ℕ) → n ≤ 2 ^ 24 → finite (as_f32 n /ᶠ as_f32 2) ≡ true
half_finite n h = quotient_finite n 2 (lit< tt) h (lit≤ tt)

-- ---- the coordinates
pub direct_real : (n den i j : ℕ) → 0 < den → n ≤ 2 ^ 24 → den ≤ 2 ^ 24 → i ≤ 2 ^ 24 → j ≤ 2 ^ 24 → is_nan (direct_x n den i j) ≡ false
unfolding direct_x
direct_real n den i j some n_to den_to i-to j-to =
    let column = finite_real (as_f32 j) (small_finite (as_f32 j) (whole_small j j-to)) in
    let one = small_finite (as_f32 1) (whole_small 1 (lit≤ tt)) in
    sub_real binary32 _ _ (add_real binary32 _ _ (sub_real binary32 _ _ column (half_finite n n_to)) one) (quotient_finite i den some i-to den_to)

pub interpolated_real : (n oversample i : ℕ) → 0 < oversample → n ≤ 2 ^ 24 → oversample ≤ 2 ^ 24 → i ≤ 2 ^ 24 → is_nan (interpolated_x n oversample i) ≡ false
unfolding interpolated_x
interpolated_real n oversample i some n_to over-to i-to =
    sub_real binary32 _ _ (finite_real _ (small_finite _ (over_small _ oversample some over-to (shifted_small i i-to)))) (half_finite n n_to)

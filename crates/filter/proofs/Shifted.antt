-- i - 4 in f32 is exact: it is the whole number i - 4, which may be negative, as an f32. Assumes nothing.
use mathlib.Core.Path.{◌≡◌, refl, sym, ap, ◌∙◌, subst}
use mathlib.Core.Bool.{true, false, true≢false}
use Prim.Native.Nat.{ℕ, zero, suc, ◌+◌, ◌-◌, ◌*◌, ◌^◌, ◌≤◌}
use native.Mathlib.Nat.{mul-pos}
use native.Mathlib.Omega.{arith}
use lib.Dec.{ltb, lit<}
use lib.Arith.{le→nltb}
use lib.IntN.{pos, negsuc, ◌-ℤ◌}
use lib.Ieee.{Float, nan, inf, fin, binary32, up, down, round, add, sub, sum, neg, of_int}
use lib.Ieee.Fits.{down_pos}
use lib.Ieee.Bits.{cond_no}
use lib.Ieee.Exact.{HasValue}
use lib.Ieee.Back.{round_whole}
use lib.Ieee.Scale.{round_same}
use Rattle.math.specs.Operators.{◌-ᶠ◌}
use Rattle.math.specs.Numerals.{as_f32}

less_four : (x : Float) (k : ℕ) → HasValue x false (k + 4) 1 → x -ᶠ fin false 1 (pos 2) ≡ round binary32 false k 1
unfolding sub add sum neg
less_four nan k h = absurd h
less_four (inf s) k h = absurd h
less_four (fin true m e) k h = absurd (true≢false h.0)
less_four (fin false m e) k h =
    let a = m * up e * 1 in
    let b = 1 * 4 * down e in
    let v = h.1 in
    cond_no (ltb a b) (round binary32 true (b - a) (down e * 1)) (round binary32 false (a - b) (down e * 1)) (le→nltb a b (omega arith))
    ∙ round_same binary32 false (a - b) (down e * 1) k 1 (mul-pos (down_pos e) (lit< tt)) (lit< tt) (omega arith)

from_four : (k : ℕ) → k + 4 ≤ 2 ^ 24 → as_f32 (k + 4) -ᶠ as_f32 4 ≡ of_int binary32 (pos (k + 4) -ℤ pos 4)
unfolding of_int
from_four k h =
    let back : k + 4 - 4 ≡ k = omega arith in
    let is : pos (k + 4) -ℤ pos 4 ≡ pos k = cond_no (ltb (k + 4) 4) (negsuc (4 - suc (k + 4))) (pos (k + 4 - 4)) (le→nltb (k + 4) 4 (omega arith)) ∙ ap pos back in
    less_four (as_f32 (k + 4)) k (round_whole binary32 false (k + 4) h) ∙ ap (of_int binary32) (sym is)

pub minus_four : (i : ℕ) → i ≤ 2 ^ 24 → as_f32 i -ᶠ as_f32 4 ≡ of_int binary32 (pos i -ℤ pos 4)
unfolding sub add sum neg of_int
minus_four zero h = refl
minus_four (suc zero) h = refl
minus_four (suc (suc zero)) h = refl
minus_four (suc (suc (suc zero))) h = refl
minus_four (suc (suc (suc (suc k)))) h =
    let e : k + 4 ≡ suc (suc (suc (suc k))) = omega arith in
    subst (λ (i : ℕ). as_f32 i -ᶠ as_f32 4 ≡ of_int binary32 (pos i -ℤ pos 4)) e (from_four k (omega arith))

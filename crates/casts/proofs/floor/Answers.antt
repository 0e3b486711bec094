-- `casts::floor` meets its contract: above 0 and below 2 ^ 64 it cuts the fraction off, and the two other ways answer the ends of the range.
-- Assumes nothing.
use Rattle.std.proofs.Common.{◌≡◌, ◌+◌, ◌-◌, ◌*◌, ◌/◌, ◌^◌, ◌≤◌, true, false, T, pos, refl, ◌∙◌, true≢false, le-div_iff_mul-le, arith, lt→ltb, nltb→le}
use mathlib.Core.Bool.{false≢true}
use native.Mathlib.Nat.{div-eq_of_lt}
use lib.Ieee.{Float, nan, inf, fin, up, down, lt, to_unsigned, of_bits}
use lib.Ieee.Fits.{down_pos}
use Rattle.math.specs.Numerals.{nought}
use Rattle.casts.specs.Floor.{floor_of}
use Rattle.math.proofs.Pick.{passed, failed}
use Rattle.casts.proofs.floor.Goals as goal

-- ---- above 0 and below 2 ^ 64
above_minus_one : (y : Float) → lt nought y ≡ true → T (lt (fin true 1 (pos 0)) y)
unfolding lt
above_minus_one nan h = absurd (false≢true h)
above_minus_one (inf true) h = absurd (false≢true h)
above_minus_one (inf false) h = tt
above_minus_one (fin true m e) h = absurd (false≢true h)
above_minus_one (fin false m e) h = lt→ltb 0 (1 * 1 * down e + m * up e * 1) (omega (arith, down_pos e))

pub truncating_f32_to_u64-requires : goal.truncating_f32_to_u64-requires
unfolding of_bits
truncating_f32_to_u64-requires c = record { lower_bound = above_minus_one c.args.y c.if-y.true; upper_bound = passed c.if-y-2.true }

truncated : (y : Float) → to_unsigned 64 y ≡ floor_of y
unfolding to_unsigned floor_of
truncated nan = refl
truncated (inf s) = refl
truncated (fin s m e) = refl

pub returns-then-y-2 : goal.returns-then-y-2
returns-then-y-2 c = c.truncating_f32_to_u64.ensures ∙ truncated _

-- ---- from 2 ^ 64 on
too_large : (y : Float) → lt nought y ≡ true → lt y (fin false 1 (pos 64)) ≡ false → 2 ^ 64 - 1 ≡ floor_of y
unfolding lt floor_of
too_large nan h k = absurd (false≢true h)
too_large (inf true) h k = absurd (false≢true h)
too_large (inf false) h k = refl
too_large (fin true m e) h k = absurd (false≢true h)
too_large (fin false m e) h k =
    let l = nltb→le (m * up e * 1) (1 * 2 ^ 64 * down e) (failed k) in
    let q : 2 ^ 64 ≤ m * up e / down e = (le-div_iff_mul-le (down_pos e)).1 (omega arith) in
    omega arith

pub returns-then-y : goal.returns-then-y
unfolding of_bits
returns-then-y c = too_large c.args.y c.if-y.true c.if-y-2.false

-- ---- negative, 0 or a NaN
not-above-nought : (y : Float) → lt nought y ≡ false → 0 ≡ floor_of y
unfolding lt floor_of
not-above-nought nan h = refl
not-above-nought (inf true) h = refl
not-above-nought (inf false) h = absurd (true≢false h)
not-above-nought (fin true m e) h = refl
not-above-nought (fin false m e) h =
    let l = nltb→le (0 * down e) (m * up e * 1) (failed h) in
    let z : m * up e / down e ≡ 0 = div-eq_of_lt (omega (arith, down_pos e)) in
    omega arith

pub returns : goal.returns
unfolding of_bits
returns c = not-above-nought c.args.y c.if-y.false

-- What is not above 1, times 32 and rounded, is not above 32: so its floor is at most 32. Assumes nothing.
use Rattle.std.proofs.Common.{◌≡◌, ℕ, ◌*◌, ◌≤◌, true, false, sym, refl, ap, ◌∙◌, subst, true≢false, mul-pos, arith, lit<, lit≤, nltb→le}
use lib.Ieee.{Float, nan, inf, fin, binary32, up, down, round, neg, mul, lt, of_int}
use lib.Ieee.Fits.{down_pos}
use Rattle.math.specs.Operators.{◌*ᶠ◌}
use Rattle.math.specs.Numerals.{as_f32}
use Rattle.casts.specs.Floor.{floor_of}
use Rattle.math.proofs.Pick.{failed}
use Rattle.math.proofs.Rounded.{Plain, round_plain, round_at_most}
use Rattle.math.proofs.Sign.{round_sign}
use Rattle.math.proofs.Bounded.{holds}
use Rattle.casts.proofs.Floored.{floor_at_most}
use Rattle.window.specs.Window.{NotAboveOne}

-- ---- the floor of what is negative is 0
floor_neg : (y : Float) → Plain y → floor_of (neg y) ≡ 0
unfolding neg floor_of
floor_neg nan p = absurd p
floor_neg (inf true) p = absurd (true≢false p)
floor_neg (inf false) p = refl
floor_neg (fin true m e) p = absurd (true≢false p)
floor_neg (fin false m e) p = refl

negative : (a c : ℕ) → floor_of (round binary32 true a c) ≡ 0
negative a c = ap floor_of (round_sign binary32 true a c) ∙ floor_neg (round binary32 false a c) (round_plain binary32 a c)

pub times_32 : (x : Float) → NotAboveOne x → floor_of (x *ᶠ as_f32 32) ≤ 32
unfolding lt mul of_int floor_of
times_32 nan h = lit≤ tt
times_32 (inf true) h = lit≤ tt
times_32 (inf false) h = absurd (true≢false h)
times_32 (fin true m e) h = subst (λ (n : ℕ). n ≤ 32) (sym (negative (m * up e * 32) (down e * 1))) (lit≤ tt)
times_32 (fin false m e) h =
    let k : m * up e * 1 ≤ 1 * 1 * down e = nltb→le (1 * 1 * down e) (m * up e * 1) (failed h) in
    floor_at_most (round binary32 false (m * up e * 32) (down e * 1)) 32
    (round_at_most binary32 (m * up e * 32) (down e * 1) 32 1 (mul-pos (down_pos e) (lit< tt)) (lit< tt) (holds binary32 32 0 (lit< tt) (lit≤ tt)) (omega arith))

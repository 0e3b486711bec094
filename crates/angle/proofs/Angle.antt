-- At the house row and any two rates in limits every angle is in reach: each operation rounds to at most a bound that its format holds.
-- The bounds: n/2 for |x|; 31/32 for 0.96, and for a lowered cutoff the next multiple of 2 ^ -20 above 31 den / (32 num); 81 for their product; 22/7 for pi; 256. That each x is a number is `coordinate_real` of `Settings`.
-- Assumes nothing.
use mathlib.Core.Path.{◌≡◌, refl}
use mathlib.Core.Logic.{inl, inr}
use mathlib.Core.Bool.{true, false}
use Prim.Native.Nat.{ℕ, ◌+◌, ◌*◌, ◌/◌, ◌^◌, ◌≤◌, ◌<◌}
use native.Mathlib.Nat.{le_refl, le_trans, lt_of_le_of_lt, mul-le-mul_right, mul-le-mul_left, le_of_mul-le-mul_right, div-mul-le_self, div-le_of_le-mul, lt-div-mul-add}
use native.Mathlib.Omega.{arith}
use lib.Dec.{lit≤, lit<}
use lib.Ieee.{Float, binary32, binary64, round, of_int, is_nan, le}
use lib.Ieee.Back.{round_whole}
use lib.Ieee.Exact.{HasValue}
use borrow.Author.Tests.{lt-ltb, le-ltb}
use Rattle.math.specs.Numerals.{as_f32, as_f64, decimal32, decimal64}
use Rattle.math.specs.Operators.{◌*ᵈ◌, ◌*ᶠ◌}
use Rattle.math.specs.Sign.{magnitude}
use Rattle.math.proofs.Rounded.{AtMost, not_above, is_le}
use Rattle.math.proofs.Sign.{magnitude_plain}
use Rattle.math.proofs.Bounded.{holds, at_value, mul_at_most, div_at_most}
use Rattle.sine.specs.Sine.{C}
use Rattle.sinc.specs.Sinc.{angle_at, far}
use Rattle.sinc.proofs.Place.{half}
use Rattle.math.proofs.Closest.{below_or_not}
use Rattle.sizes.specs.Sizes.{InLimits, RatioInLimits}
use Rattle.quality.specs.House.{house}
use Rattle.rates.specs.Setting.{cutoff_of, length_of, setting_at, setting_of}
use Rattle.rates.proofs.Numbers.{length_down, length_up}
use Rattle.rates.proofs.Limits.{ratio_in_limits, at_ratio_lem}
use Rattle.quality.proofs.House.{house_sane}
use Rattle.angle.specs.Angle.{sine_reach, AnglesInReach}
use Rattle.filter.proofs.Settings.{setting_fits, coordinate_real}

-- ---- x that is not far is at most n/2 in size
not_far : (x : Float) (n : ℕ) → 0 < n → n ≤ 7680 → is_nan x ≡ false → far x n ≡ false → AtMost (magnitude x) n 2
not_far x n some few real h = not_above (magnitude x) (decimal64 1 5 *ᵈ as_f64 n) n 2 (magnitude_plain x real) (half n some (lt_of_le_of_lt few (lit< tt))) h

-- ---- the constants
bandwidth_down : AtMost (magnitude house.downsample_bandwidth) 31 32
unfolding magnitude house decimal32
bandwidth_down = (refl, lit≤ tt)

bandwidth_up : AtMost (magnitude house.upsample_bandwidth) 31 32
unfolding magnitude house decimal32
bandwidth_up = (refl, lit≤ tt)

half_turn : AtMost (magnitude C) 22 7
unfolding magnitude C decimal64
half_turn = (refl, lit≤ tt)

eighty_one : HasValue (round binary32 false 81 1) false 81 1
unfolding round
eighty_one = (refl, refl)

reach_held : HasValue (round binary64 false sine_reach 1) false sine_reach 1
unfolding round
reach_held = (refl, refl)

counted : (n : ℕ) → n ≤ 192000 → HasValue (as_f32 n) false n 1
unfolding of_int
counted n h = round_whole binary32 false n (le_trans h (lit≤ tt))

-- ---- the last step: from the product of x and the cutoff to the angle
in_reach : (cutoff x : Float) → AtMost (magnitude (x *ᶠ cutoff)) 81 1 → le (magnitude (angle_at cutoff x)) (as_f64 sine_reach) ≡ true
unfolding of_int
in_reach cutoff x h =
    is_le (magnitude (angle_at cutoff x)) (as_f64 sine_reach) sine_reach 1 (lit< tt) reach_held
    (mul_at_most binary64 C (x *ᶠ cutoff) 22 7 81 1 sine_reach 1 (lit< tt) (lit< tt) (lit< tt) reach_held half_turn h (lit≤ tt))

-- ---- the product, where the cutoff is at most p / q and n/2 times that at most 81
times_cutoff : (x cutoff : Float) (n p q : ℕ) → 0 < q → AtMost (magnitude x) n 2 → AtMost (magnitude cutoff) p q → n * p * 1 ≤ 81 * (2 * q) → AtMost (magnitude (x *ᶠ cutoff)) 81 1
times_cutoff x cutoff n p q some h k l = mul_at_most binary32 x cutoff n 2 p q 81 1 (lit< tt) some (lit< tt) eighty_one h k l

-- with w * 2 ^ -20 at most 31 den / (32 num), and n at most 167 num / den: n/2 times the next multiple of 2 ^ -20 is at most 81. 1015808 is 31 * 2 ^ 15, and 169639936 is 167 times that
times_le : (n w num den : ℕ) → 0 < num → w * num ≤ 1015808 * den → n * den ≤ 167 * num → n ≤ 7680 → n * (w + 1) * 1 ≤ 81 * (2 * 2 ^ 20)
times_le n w num den some h k l =
    let times : n * w * num ≤ 169639936 * num = omega (arith, mul-le-mul_left n h) in
    omega (arith, le_of_mul-le-mul_right times some)

module _ (num den : ℕ) (r : RatioInLimits num den) where
  abbrev n : ℕ
  n = length_of house num den

  abbrev cutoff : Float
  cutoff = cutoff_of house num den

  -- ---- num at most den
  kept : num ≤ den → (x : Float) → AtMost (magnitude x) n 2 → AtMost (magnitude (x *ᶠ cutoff)) 81 1
  unfolding house cutoff_of
  kept h x a = times_cutoff x cutoff n 31 32 (lit< tt) a (rw (le-ltb den num h) bandwidth_up) (omega (arith, length_up house num den h))

  -- ---- num above den
  module _ (above : den < num) where
    -- 0.96 den, in f32
    scaled : AtMost (magnitude (house.downsample_bandwidth *ᶠ as_f32 den)) (31 * den) 32
    scaled =
        mul_at_most binary32 house.downsample_bandwidth (as_f32 den) 31 32 den 1 (31 * den) 32 (lit< tt) (lit< tt) (lit< tt)
        (holds binary32 (31 * den) 5 (omega arith) (lit≤ tt)) bandwidth_down (at_value (as_f32 den) den 1 (counted den r.den_to)) (omega arith)

    -- the cutoff, in steps of 2 ^ -20
    abbrev steps : ℕ
    steps = 1015808 * den / num + 1

    steps_above : 1015808 * den < steps * num
    steps_above = omega (arith, lt-div-mul-add {a = 1015808 * den} {b = num} (omega arith))

    steps_le : steps ≤ 1015809
    steps_le = let w : 1015808 * den / num ≤ 1015808 = div-le_of_le-mul num (omega arith) in omega arith

    cutoff_at_most : AtMost (magnitude cutoff) steps (2 ^ 20)
    unfolding cutoff_of
    cutoff_at_most =
        rw (lt-ltb den num above)
        (div_at_most binary32 (house.downsample_bandwidth *ᶠ as_f32 den) (as_f32 num) (31 * den) 32 num steps (2 ^ 20) (lit< tt) r.num_from (lit< tt)
        (holds binary32 steps 20 (omega (arith, steps_le)) (lit≤ tt)) scaled (counted num r.num_to) (omega (arith, steps_above)))

    -- n is at most 160 num / den + 7
    length_le : n * den ≤ 167 * num
    unfolding house
    length_le =
        let most : n ≤ 160 * num / den + 7 = omega (arith, length_down house num den above) in
        omega (arith, mul-le-mul_right den most, div-mul-le_self (160 * num) den)

    lowered : n ≤ 7680 → (x : Float) → AtMost (magnitude x) n 2 → AtMost (magnitude (x *ᶠ cutoff)) 81 1
    lowered n_to x h =
        times_cutoff x cutoff n steps (2 ^ 20) (lit< tt) h cutoff_at_most
        (times_le n (1015808 * den / num) num den r.num_from (div-mul-le_self (1015808 * den) num) length_le n_to)

  -- ---- either way
  at_house : (x : Float) → is_nan x ≡ false → far x n ≡ false → le (magnitude (angle_at cutoff x)) (as_f64 sine_reach) ≡ true
  unfolding house setting_at
  at_house x real near =
      let l = at_ratio_lem house house_sane num den r in
      let a = not_far x n (omega (arith, l.n_from)) l.n_to real near in
      in_reach cutoff x (elim (below_or_not den num) [ inl h ↦ lowered h l.n_to x a | inr h ↦ kept h x a ])

-- ---- any two rates in limits
pub angles_in_reach : (source target : ℕ) → InLimits source → InLimits target → AnglesInReach (setting_of house source target)
unfolding setting_of setting_at
angles_in_reach source target s t k l =
    let real = coordinate_real _ _ (setting_fits house house_sane source target s t _ (le_refl _)) k l in
    record { number = real; angle = at_house _ _ (ratio_in_limits source target s t) _ real }

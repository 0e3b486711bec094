-- The numbers of a run of outputs: how many stand before the samples' end, and that they are small enough to reckon with.
--     count_is                     a round makes as many as the room takes, or as many as stand before the end
--     span_to, span_before         how many den-ths a run leads on, and its last output
-- Assumes nothing.
use mathlib.Core.Path.{◌≡◌, sym, ap, ◌∙◌}
use mathlib.Core.Logic.{inl, inr}
use Prim.Native.Nat.{ℕ, zero, suc, ◌+◌, ◌-◌, ◌*◌, ◌/◌, ◌^◌, ◌≤◌, ◌<◌, min}
use native.Mathlib.Nat.{mul-add, mul-le-mul, mul-le-mul_left, mul-le-mul_right, lt_of_mul-lt-mul_left, div-add-mod', mod-lt}
use native.Mathlib.Omega.{arith}
use Rattle.timeline.specs.Numbers.{Rate, Place, ahead, made}
use Rattle.timeline.proofs.Places.{below_or_not, reach, ahead_reach, ahead_phase, made_is}
use Rattle.rates.specs.Rated.{rate_with}
use Rattle.rates.specs.declared.Setting.{Setting}
use Rattle.rounds.specs.Rounds.{Playable}
use Rattle.rounds.specs.Runs.{Numbered}

-- steps of num: as many as the quotient do not pass x, and one more does
steps_within : (num x j : ℕ) → j ≤ x / num → j * num ≤ x
steps_within num x j h = omega (arith, mul-le-mul_right num h, div-add-mod' x num)

steps_past : {num : ℕ} → 0 < num → (x k : ℕ) → x / num + 1 ≤ k → x < k * num
steps_past {num} some x k h =
    omega (arith, mul-le-mul_right num h, div-add-mod' x num, mod-lt x some)

-- the den-ths from place p to the end of i samples, and how many outputs stand before that end
abbrev pub gap : Rate → ℕ → Place → ℕ
gap r i p = r.den * (i - p.position) - p.phase

abbrev pub most : Rate → ℕ → Place → ℕ
most r i p = (gap r i p - 1) / r.num + 1

-- a place before the end is some den-ths before it
pub gap_some : (r : Rate) (i : ℕ) (p : Place) → p.phase < r.den → p.position < i → p.phase < r.den * (i - p.position)
gap_some r i p phase before =
    let one : 1 ≤ i - p.position = omega arith in
    omega (arith, mul-le-mul_left r.den one)

module _ (r : Rate) (some : 0 < r.num) (d : 0 < r.den) (i : ℕ) (p : Place) (phase : p.phase < r.den) (before : p.position < i) where
  -- the end, in den-ths
  ending : r.den * i ≡ reach r p + gap r i p
  ending =
      let e : i ≡ p.position + (i - p.position) = omega arith in
      let all = ap (λ (x : ℕ). r.den * x) e ∙ mul-add r.den p.position (i - p.position) in
      omega (arith, all, gap_some r i p phase before)

  -- the first `most` outputs stand before the end, and no later one does
  stand_before : (j : ℕ) → j < most r i p → (ahead r j p).position < i
  stand_before j h =
      let full : 0 < gap r i p = omega (arith, gap_some r i p phase before) in
      let within : j * r.num ≤ gap r i p - 1 = steps_within r.num (gap r i p - 1) j (omega arith) in
      lt_of_mul-lt-mul_left r.den (omega (arith, ending, ahead_reach r j p))

  stand_past : (k : ℕ) → most r i p ≤ k → i ≤ (ahead r k p).position
  stand_past k h =
      let past : gap r i p - 1 < k * r.num = steps_past some (gap r i p - 1) k h in
      let over : i < (ahead r k p).position + 1 =
      lt_of_mul-lt-mul_left r.den (omega (arith, ending, ahead_reach r k p, ahead_phase r d k p phase)) in
      omega arith

  count_full : (room : ℕ) → room < most r i p → room ≡ made r i room p
  count_full room h =
      sym (made_is r i room room p (omega arith) (λ j l. stand_before j (omega arith)) (λ l. omega arith))

  count_most : (room : ℕ) → most r i p ≤ room → most r i p ≡ made r i room p
  count_most room h = sym (made_is r i room (most r i p) p h stand_before (λ l. stand_past (most r i p) (omega arith)))

  pub count_is : (room : ℕ) → min room (most r i p) ≡ made r i room p
  count_is room = elim (below_or_not room (most r i p)) [
    | inl h ↦ let e : min room (most r i p) ≡ room = omega arith in e ∙ count_full room h
    | inr h ↦ let e : min room (most r i p) ≡ most r i p = omega arith in e ∙ count_most room h
  ]

-- den-ths of no more than 2^32 samples
pub samples_to : {s : Setting} → Playable s → (x : ℕ) → x ≤ 2 ^ 32 → s.den * x ≤ 192000 * 2 ^ 32
samples_to g x h = mul-le-mul g.terms.den_to h

-- the last output stands at sample 2^32 at most, and the place after it one step further
pub span_to : {s : Setting} {p : Place} (count : ℕ) → Playable s → Numbered s p count → count * s.num ≤ 192000 * 2 ^ 32 + 384000
span_to zero y g = omega arith
span_to {s} {p} (suc k) y g =
    let r = rate_with s 0 in
    let t = y.terms in
    let far : s.den * (ahead r k p).position ≤ 192000 * 2 ^ 32 = samples_to y (ahead r k p).position (g.each k (omega arith)) in
    omega (arith, far, ahead_reach r k p, ahead_phase r t.den_from k p g.phase, t.num_to, t.den_to)

-- the last output itself
pub span_before : {s : Setting} {p : Place} (count : ℕ) → Playable s → Numbered s p count → (count - 1) * s.num ≤ 192000 * 2 ^ 32 + 384000
span_before {s} count y g =
    let less : count - 1 ≤ count = omega arith in
    omega (arith, mul-le-mul_right s.num less, span_to count y g)

-- The filter's length, the oversample, the kernel and its coefficients, each bounded over any sane row.
-- Assumes nothing.
use mathlib.Core.Path.{◌≡◌, refl, ◌∙◌, ap}
use mathlib.Core.Logic.{inl, inr}
use mathlib.Core.Bool.{cond}
use Prim.Native.Nat.{ℕ, suc, ◌+◌, ◌*◌, ◌^◌, ◌/◌, ◌%◌, ◌≤◌, ◌<◌, max}
use native.Mathlib.Nat.{div-le_of_le-mul, le-div_iff_mul-le, mul-le-mul_left, mul-le-mul_right, mul-le-mul, lt-mul-div-succ, le_of_lt}
use native.Mathlib.Omega.{arith}
use lib.Dec.{leb}
use borrow.Author.Tests.{lt-ltb, le-ltb, le-leb, lt-leb}
use Rattle.timeline.proofs.Places.{below_or_not}
use Rattle.quality.specs.Quality.{Sane}
use Rattle.rates.specs.Setting.{up_to8, length_of, halved, oversample_of, kernel_of, coefficients_of}
use Rattle.quality.specs.declared.QualityMapping.{QualityMapping}
use Rattle.rates.specs.declared.Kernel.TheVariants.{Direct, Interpolated}

-- ---- n
module _ (row : QualityMapping) (num den : ℕ) where
  abbrev base : ℕ
  base = row.base_length

  abbrev n : ℕ
  n = length_of row num den

  pub length_down : den < num → length_of row num den ≡ up_to8 (row.base_length * num / den)
  unfolding length_of
  length_down h = rw (lt-ltb den num h)

  pub length_up : num ≤ den → length_of row num den ≡ row.base_length
  unfolding length_of
  length_up h = rw (le-ltb den num h)

  -- a multiple of 8
  pub length_by_8 : Sane row → length_of row num den % 8 ≡ 0
  length_by_8 s = elim (below_or_not den num) [
    | inl h ↦ omega (arith, length_down h)
    | inr h ↦ omega (arith, length_up h)
  ]

  -- at least the base length
  pub length_from : 0 < den → row.base_length ≤ length_of row num den
  length_from d = elim (below_or_not den num) [
    | inl h ↦ (let x : base ≤ base * num / den = (le-div_iff_mul-le {x = base} {y = base * num} d).1 (mul-le-mul_left base (le_of_lt h)) in
        omega (arith, length_down h))
    | inr h ↦ omega (arith, length_up h)
  ]

  -- at most q times the base length, where the ratio is at most q
  pub length_to : Sane row → (q : ℕ) → 0 < q → num ≤ q * den → length_of row num den ≤ q * row.base_length
  length_to s q z h = elim (below_or_not den num) [
    | inl l ↦ (let f : base * num ≤ den * (q * base) = omega (arith, mul-le-mul_left base h) in
        let x : base * num / den ≤ q * base = div-le_of_le-mul den f in
        let e : q * base ≡ 8 * (q * (base / 8)) = ap (λ (k : ℕ). q * k) {x = base} {y = 8 * (base / 8)} (omega arith) ∙ omega arith in
        omega (arith, length_down l))
    | inr g ↦ omega (arith, length_up g, mul-le-mul_right base z)
  ]

  -- the ratio is at most n/2
  pub ratio_to : Sane row → 0 < den → num ≤ den * (length_of row num den / 2)
  ratio_to s d = elim (below_or_not den num) [
    | inl l ↦ (let x = base * num / den in
        let a : base * num < den * (x + 1) = lt-mul-div-succ (base * num) d in
        let b : x ≤ 2 * (n / 2) = omega (arith, length_down l) in
        let c : den * x ≤ den * (2 * (n / 2)) = mul-le-mul_left den b in
        let e : 16 * num ≤ base * num = mul-le-mul_right num s.base_from in
        omega arith)
    | inr g ↦ (let b : 1 ≤ n / 2 = omega (arith, length_up g, s.base_from) in
        omega (arith, mul-le-mul_left den b))
  ]

-- ---- the oversample
module _ (num den m : ℕ) where
  pub halved_more : (k : ℕ) → 2 ^ suc k * den < num → halved num den (suc k) m ≡ halved num den k m / 2
  unfolding halved
  halved_more k h = rw (lt-ltb (2 ^ suc k * den) num h)

  pub halved_same : (k : ℕ) → num ≤ 2 ^ suc k * den → halved num den (suc k) m ≡ halved num den k m
  unfolding halved
  halved_same k h = rw (le-ltb (2 ^ suc k * den) num h)

  halved_less : (k : ℕ) → halved num den (suc k) m ≤ halved num den k m
  halved_less k = elim (below_or_not (2 ^ suc k * den) num) [
    | inl h ↦ omega (arith, halved_more k h)
    | inr h ↦ omega (arith, halved_same k h)
  ]

  pub halved_none : halved num den 0 m ≡ m
  unfolding halved
  halved_none = refl

module _ (row : QualityMapping) (num den : ℕ) where
  abbrev left : ℕ → ℕ
  left k = halved num den k row.oversample

  pub oversample_down : den < num → oversample_of row num den ≡ max 1 (halved num den 4 row.oversample)
  unfolding oversample_of
  oversample_down h = rw (lt-ltb den num h)

  pub oversample_up : num ≤ den → oversample_of row num den ≡ row.oversample
  unfolding oversample_of
  oversample_up h = rw (le-ltb den num h)

  start : left 0 ≡ row.oversample
  start = halved_none num den row.oversample

  less : (k : ℕ) → left (suc k) ≤ left k
  less k = halved_less num den row.oversample k

  more : (k : ℕ) → 2 ^ suc k * den < num → left (suc k) ≡ left k / 2
  more k h = halved_more num den row.oversample k h

  module _ (sane : Sane row) where
    pub oversample_from : 1 ≤ oversample_of row num den
    oversample_from = elim (below_or_not den num) [
      | inl h ↦ omega (arith, oversample_down h)
      | inr h ↦ omega (arith, oversample_up h)
    ]

    pub oversample_to : oversample_of row num den ≤ 16
    oversample_to = elim (below_or_not den num) [
      | inl h ↦ omega (arith, oversample_down h, start, less 0, less 1, less 2, less 3)
      | inr h ↦ omega (arith, oversample_up h)
    ]

    -- where the ratio is at most q and the oversample at most o, n * oversample is at most q * o times the base length
    band : (q o : ℕ) → 0 < q → num ≤ q * den → oversample_of row num den ≤ o → q * o ≤ 48
        → length_of row num den * oversample_of row num den ≤ 48 * row.base_length
    band q o z h l e =
        let a : length_of row num den * oversample_of row num den ≤ q * row.base_length * o = mul-le-mul (length_to row num den sane q z h) l in
        let b : q * o * row.base_length ≤ 48 * row.base_length = mul-le-mul_right row.base_length e in
        omega arith

    -- n * oversample is at most 48 times the base length
    pub table_to : 0 < den → num ≤ 48 * den → length_of row num den * oversample_of row num den ≤ 48 * row.base_length
    table_to d limit = elim (below_or_not (2 ^ 4 * den) num) [
      | inl e ↦ band 48 1 (omega arith) limit
          (omega (arith, oversample_down (omega arith), start, more 0 (omega arith), more 1 (omega arith), more 2 (omega arith), more 3 e)) (omega arith)
      | inr e ↦ elim (below_or_not (2 ^ 3 * den) num) [
        | inl f ↦ band 16 2 (omega arith) (omega arith)
            (omega (arith, oversample_down (omega arith), start, more 0 (omega arith), more 1 (omega arith), more 2 f, less 3)) (omega arith)
        | inr f ↦ elim (below_or_not (2 ^ 2 * den) num) [
          | inl g ↦ band 8 4 (omega arith) (omega arith)
              (omega (arith, oversample_down (omega arith), start, more 0 (omega arith), more 1 g, less 2, less 3)) (omega arith)
          | inr g ↦ elim (below_or_not (2 ^ 1 * den) num) [
            | inl h ↦ band 4 8 (omega arith) (omega arith)
                (omega (arith, oversample_down (omega arith), start, more 0 h, less 1, less 2, less 3)) (omega arith)
            | inr h ↦ band 2 16 (omega arith) (omega arith) oversample_to (omega arith)
          ]
        ]
      ]
    ]

-- ---- the kernel and its coefficients
module _ (n oversample den : ℕ) (long : 8 < n) (d : 0 < den) (f : n * oversample ≤ 536870911) where
  -- within the limits the test is den <= oversample
  pub kernel_is : kernel_of n oversample den ≡ cond (leb den oversample) Direct Interpolated
  unfolding kernel_of
  kernel_is = elim (below_or_not oversample den) [
    | inl l ↦ rw (lt-leb den oversample l, lt-leb (n * den) (n * oversample + 8) (omega (arith, mul-le-mul_left n l)))
    | inr g ↦
        (let a : n * den ≤ n * oversample = mul-le-mul_left n g in
        let b : n ≤ 536870911 / den = (le-div_iff_mul-le {x = n} {y = 536870911} d).1 (omega arith) in
        rw (le-leb den oversample g, le-leb (n * den) (n * oversample + 8) (omega arith), le-leb n (536870911 / den) b))
  ]

  pub coefficients_to : coefficients_of (kernel_of n oversample den) n oversample den ≤ n * oversample + 8
  unfolding coefficients_of
  coefficients_to = elim (below_or_not oversample den) [
    | inl l ↦ rw (kernel_is, lt-leb den oversample l) (omega arith)
    | inr g ↦ rw (kernel_is, le-leb den oversample g) (omega (arith, mul-le-mul_left n g))
  ]

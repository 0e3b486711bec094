-- The layout, sample by sample and row by row.
--     row_goes_on, row_ends        over one sample of a row, after the last
--     rows_more                    one more row
-- Assumes nothing.
use mathlib.Core.Path.{◌≡◌, sym, ap, ◌∙◌}
use mathlib.Core.Logic.{inl, inr}
use mathlib.Core.List.{List}
use Prim.Native.Nat.{ℕ, ◌+◌, ◌*◌, ◌≤◌, ◌<◌}
use native.Mathlib.Nat.{add-mul, one-mul, ne_of_lt, mul-le-mul_right, lt_of_mul-lt-mul_right}
use native.Mathlib.Omega.{arith}
use lib.ListN.{length, set, length-set}
use lib.Seq.{get_or-set_same, get_or-set_other}
use lib.Ieee.{Float, nan}
use Rattle.math.proofs.Closest.{below_or_not}
use Rattle.kernel.specs.Sums.{at}
use Rattle.lanes.specs.Inner.{RowFits, RowLaid}

-- the first k samples of a row stand in it; the next is sample t, for entry i
pub record RowLaying (before after window : List Float) (start from num i t : ℕ) : Type 0 where
  pub k : ℕ
  pub entry : i ≡ start + k
  pub sample : t ≡ from + k * num
  pub long : length after ≡ length before
  pub these : (q : ℕ) → q < k → at after (start + q) ≡ at window (from + q * num)
  pub others : (e : ℕ) → e < start → at after e ≡ at before e

module _ (before window : List Float) (start from num : ℕ) where
  module _ {after : List Float} {i t : ℕ} (r : RowLaying before after window start from num i t) where
    -- the next sample has an entry
    pub row_inside : {reach size : ℕ} → RowFits start from num reach size (length window) → t < reach → i < size
    row_inside f h = omega (arith, f.entries r.k (omega (arith, r.sample)), r.entry)

    pub row_goes_on : i < length after → RowLaying before (set after i (at window t)) window start from num (i + 1) (t + num)
    row_goes_on h =
        record {
          k = r.k + 1;
          entry = omega (arith, r.entry);
          sample = omega (arith, r.sample, add-mul r.k 1 num, one-mul num);
          long = length-set after i (at window t) ∙ r.long;
          these = more;
          others = λ e l. get_or-set_other after i e (at window t) nan (ne_of_lt (omega (arith, r.entry))) ∙ r.others e l;
        }
      where
        more : (q : ℕ) → q < r.k + 1 → at (set after i (at window t)) (start + q) ≡ at window (from + q * num)
        more q l = elim (below_or_not q r.k) [
          | inl b ↦ get_or-set_other after i (start + q) (at window t) nan (ne_of_lt (omega (arith, r.entry))) ∙ r.these q b
          | inr g ↦
              let last : q ≡ r.k = omega arith in
              let here : start + q ≡ i = omega (arith, r.entry) in
              rw here (get_or-set_same after i (at window t) nan h) ∙ ap (at window) (r.sample ∙ ap (λ (v : ℕ). from + v * num) (sym last))
        ]

    pub row_ends : {reach : ℕ} → reach ≤ t → RowLaid before after window start from num reach
    row_ends h =
        record {
          long = r.long;
          these = λ q l. r.these q (lt_of_mul-lt-mul_right num (omega (arith, r.sample)));
          others = r.others;
        }

-- the first rows of a layout
pub record RowsWoven (x window : List Float) (num stride reach rows : ℕ) : Type 0 where
  pub each : (r q : ℕ) → r < rows → q * num + r < reach → at x (r * stride + q) ≡ at window (q * num + r)

-- a row ends within the rows
pub row_end : (num stride r : ℕ) → r < num → r * stride + stride ≤ num * stride
row_end num stride r h = omega (arith, mul-le-mul_right {m = r + 1} {n = num} stride (omega arith), add-mul r 1 stride, one-mul stride)

module _ (window : List Float) (num stride reach : ℕ) where
  -- a sample of row r stands in one of its columns
  column_low : (r q : ℕ) → reach ≤ stride * num → q * num + r < reach → q < stride
  column_low r q h l = lt_of_mul-lt-mul_right num (omega arith)

  pub rows_more : {before after : List Float} (r : ℕ) {start : ℕ} → reach ≤ stride * num → start ≡ r * stride
      → RowsWoven before window num stride reach r → RowLaid before after window start r num reach → RowsWoven after window num stride reach (r + 1)
  rows_more {before} {after} r {start} columns e w l =
      record { each = more }
    where
      more : (s q : ℕ) → s < r + 1 → q * num + s < reach → at after (s * stride + q) ≡ at window (q * num + s)
      more s q h b = elim (below_or_not s r) [
        | inl z ↦
            let low : q < stride = column_low s q columns b in
            l.others (s * stride + q) (omega (arith, row_end r stride s z)) ∙ w.each s q z b
        | inr g ↦
            let this : s ≡ r = omega arith in
            ap (λ (v : ℕ). at after (v + q)) (ap (λ (v : ℕ). v * stride) this ∙ sym e) ∙ l.these q (omega arith) ∙ ap (at window) (omega arith)
      ]

-- What one turn of a loop adds to four outputs. Assumes nothing.
use Rattle.std.proofs.Common.{◌≡◌, ℕ, ◌+◌, ◌-◌, ◌*◌, ◌<◌, ◌≤◌, List, length, refl, sym, ap, ◌∙◌, slice_index, mul-le-mul_right, add-mul, one-mul, add_assoc, arith, drop, length-drop, get_or-drop}
use lib.Ieee.{Float, nan}
use Rattle.math.specs.Operators.{◌+ᶠ◌, ◌*ᶠ◌}
use Rattle.kernel.specs.Sums.{at, direct_sum}
use Rattle.kernel.specs.Interpolated.{tap, TapsWithin, spread}
use Rattle.kernel.proofs.Turns.{sum_turn, four_turn}
use Rattle.abreast.specs.declared.Windows.{Windows}
use Rattle.abreast.specs.declared.Overlap.{Overlap}
use Rattle.abreast.specs.Rows.{window_of, four_rows, four_taps}
use Rattle.abreast.specs.Interpolated.{output_sums}
use Rattle.abreast.proofs.Four.{four_is}

module _ (w : Windows) (row : List Float) where
  -- one more tap of a row over window k
  tap_turn : (k j : ℕ)
      → direct_sum j row (window_of w k) +ᶠ at row j *ᶠ at w.history.now (slice_index w.starts k + j) ≡ direct_sum (j + 1) row (window_of w k)
  tap_turn k j =
      ap (λ (x : Float). direct_sum j row (window_of w k) +ᶠ at row j *ᶠ x) (sym (get_or-drop (slice_index w.starts k) w.history.now j nan))
      ∙ sum_turn _ j refl

  -- and over all four
  pub rows_turn : (j : ℕ) {s r : List Float} → s ≡ four_rows w j row → r ≡ four_taps w s row j → r ≡ four_rows w (j + 1) row
  rows_turn j e g =
      g ∙ ap (λ (l : List Float). four_taps w l row j) e ∙ four_is (tap_turn 0 j) (tap_turn 1 j) (tap_turn 2 j) (tap_turn 3 j)

  -- four more taps
  pub rows_four_turns : (j : ℕ) {s a b c d : List Float} {k : ℕ} → k ≡ j + 4 → s ≡ four_rows w j row → a ≡ four_taps w s row j
      → b ≡ four_taps w a row (j + 1) → c ≡ four_taps w b row (j + 2) → d ≡ four_taps w c row (j + 3) → d ≡ four_rows w k row
  rows_four_turns j h e one two three four =
      let a = rows_turn j e one in
      let b = rows_turn (j + 1) a two in
      let c = rows_turn (j + 2) (b ∙ at_tap (omega arith)) three in
      let d = rows_turn (j + 3) (c ∙ at_tap (omega arith)) four in
      d ∙ at_tap (omega arith)
    where
      at_tap : {k m : ℕ} → k ≡ m → four_rows w k row ≡ four_rows w m row
      at_tap h = ap (λ (i : ℕ). four_rows w i row) h

-- k samples on, a sample's coefficients lie k * oversample on
tap_on : (oversample offset m k : ℕ) → offset ≤ oversample → tap oversample offset m + k * oversample ≡ tap oversample offset (m + k)
tap_on oversample offset m k l =
    omega (arith, add-mul m 1 oversample, add-mul (m + k) 1 oversample, add-mul m k oversample, one-mul oversample)

-- sample m + k is one of the n, so the table holds its coefficients
taps_fit : (m k : ℕ) {n oversample offset size i : ℕ} → m + k < n → TapsWithin n oversample offset size → i ≡ tap oversample offset m
    → i + k * oversample + 3 < size
taps_fit m k {n} {oversample} {offset} l w h =
    omega (arith, w, h, tap_on oversample offset m k w.2, mul-le-mul_right {m = m + k + 1} {n = n} oversample (omega arith))

-- the table from t on
spread_part : (s : List Float) (x : Float) (coefs : List Float) (t i : ℕ) → spread s x (drop t coefs) i ≡ spread s x coefs (t + i)
spread_part s x coefs t i =
    rw (
      get_or-drop t coefs i nan,
      get_or-drop t coefs (i + 1) nan,
      get_or-drop t coefs (i + 2) nan,
      get_or-drop t coefs (i + 3) nan,
      add_assoc t i 1,
      add_assoc t i 2,
      add_assoc t i 3,
    )

-- the sample of the history j on from the last window's first, x entries on in the coefficients that output k meets from that first one on
module _ (o : Overlap) (k j : ℕ) {x : ℕ} {taps : List Float} (h : taps ≡ drop (tap o.oversample (slice_index o.offsets k) (slice_index o.windows.starts 3 - slice_index o.windows.starts k)) o.coefs.now) (on : x ≡ j * o.oversample) where
  abbrev first : ℕ
  first = tap o.oversample (slice_index o.offsets k) (slice_index o.windows.starts 3 - slice_index o.windows.starts k)

  -- the table holds what the sample meets
  pub shared_fits : TapsWithin o.windows.n o.oversample (slice_index o.offsets k) (length o.coefs.now)
      → slice_index o.windows.starts 0 ≤ slice_index o.windows.starts k
      → slice_index o.windows.starts k ≤ slice_index o.windows.starts 3
      → j < slice_index o.windows.starts 0 + o.windows.n - slice_index o.windows.starts 3
      → x + 3 < length taps
  shared_fits t low last l =
      let fits : first + j * o.oversample + 3 < length o.coefs.now = taps_fit (slice_index o.windows.starts 3 - slice_index o.windows.starts k) j (omega arith) t refl in
      let size : length taps ≡ length o.coefs.now - first = ap length h ∙ length-drop first o.coefs.now in
      omega (arith, on, size, fits)

  -- the output's sums with it
  pub output_turn : {s r : List Float} → slice_index o.offsets k ≤ o.oversample → slice_index o.windows.starts k ≤ slice_index o.windows.starts 3
      → s ≡ output_sums o k (slice_index o.windows.starts 3 + j - slice_index o.windows.starts k)
      → r ≡ spread s (at o.windows.history.now (slice_index o.windows.starts 3 + j)) taps x
      → r ≡ output_sums o k (slice_index o.windows.starts 3 + (j + 1) - slice_index o.windows.starts k)
  output_turn {s} l last e g =
      four_turn o.oversample offset (d + j - start) o.coefs.now (window_of o.windows k) e
      (g
      ∙ ap (λ (t : List Float). spread s (at o.windows.history.now (d + j)) t x) h
      ∙ spread_part s (at o.windows.history.now (d + j)) o.coefs.now first x
      ∙ ap (λ (m : ℕ). spread s (at o.windows.history.now (d + j)) o.coefs.now (first + m)) on
      ∙ ap (λ (y : Float). spread s y o.coefs.now (first + j * o.oversample)) sample
      ∙ ap (spread s (at (window_of o.windows k) (d + j - start)) o.coefs.now) index)
      ∙ ap (output_sums o k) (omega arith)
    where
      offset : ℕ
      offset = slice_index o.offsets k

      start : ℕ
      start = slice_index o.windows.starts k

      d : ℕ
      d = slice_index o.windows.starts 3

      here : start + (d + j - start) ≡ d + j
      here = omega arith

      sample : at o.windows.history.now (d + j) ≡ at (window_of o.windows k) (d + j - start)
      sample = ap (at o.windows.history.now) (sym here) ∙ sym (get_or-drop start o.windows.history.now (d + j - start) nan)

      index : first + j * o.oversample ≡ tap o.oversample offset (d + j - start)
      index = tap_on o.oversample offset (d - start) j l ∙ ap (tap o.oversample offset) (omega arith)

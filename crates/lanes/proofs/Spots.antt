-- Where a tap stands in the layout, and where the next one does. Assumes nothing.
use mathlib.Core.Path.{◌≡◌, sym, ap, ◌∙◌}
use Prim.Native.Nat.{ℕ, ◌+◌, ◌*◌, ◌-◌, ◌/◌, ◌%◌, ◌≤◌, ◌<◌}
use native.Mathlib.Nat.{add_assoc, add-mul, one-mul, zero-mul, mod-lt, div-add-mod', div-eq_of_lt-le, mul-le-mul_right, lt_of_mul-lt-mul_right}
use native.Mathlib.Omega.{arith}
use Rattle.lanes.specs.Inner.{Spotted, TapsFit}
use Rattle.lanes.specs.declared.Spot.{Spot}
use Rattle.lanes.specs.declared.Strand.{Strand}
use Rattle.lanes.specs.declared.Weave.{Weave}
use Rattle.lanes.proofs.Rows.{row_end}

-- quotient and remainder are known by what they are
divided : (num q r : ℕ) {t : ℕ} → t ≡ q * num + r → r < num → (t / num ≡ q) × (t % num ≡ r)
divided num q r {t} e h =
    let quotient : t / num ≡ q = div-eq_of_lt-le num (omega arith) (omega (arith, add-mul q 1 num, one-mul num)) in
    (quotient, omega (arith, div-add-mod' t num, ap (λ (v : ℕ). v * num) quotient))

module _ (num stride : ℕ) {column t : ℕ} {s : Spot} (p : Spotted num stride column t s) where
  -- after the last row
  pub spot_wraps : {back : ℕ} → s.row + 1 ≡ num → back ≡ (num - 1) * stride
      → Spotted num stride column (t + 1) (record { row = 0; i = s.i - back + 1 })
  spot_wraps {back} e b =
      let d = divided num (t / num + 1) 0 {t = t + 1} (omega (arith, p.row, div-add-mod' t num, add-mul (t / num) 1 num, one-mul num)) (omega arith) in
      let last : t % num ≡ num - 1 = omega (arith, p.row) in
      let gone : t % num * stride ≡ back = ap (λ (v : ℕ). v * stride) last ∙ sym b in
      record { row = sym d.1; i = rw (d.0, d.1, zero-mul) (omega (arith, p.i)) }

  -- in another
  pub spot_steps : s.row + 1 < num → Spotted num stride column (t + 1) (record { row = s.row + 1; i = s.i + stride })
  spot_steps l =
      let d = divided num (t / num) (t % num + 1) {t = t + 1} (omega (arith, div-add-mod' t num)) (omega (arith, p.row)) in
      record { row = omega (arith, p.row, d.1); i = rw (d.0, d.1) (omega (arith, p.i, add-mul (t % num) 1 stride, one-mul stride)) }

  -- the tap's samples stand within the rows
  pub spot_inside : 0 < num → column * num + t < stride * num → s.i < num * stride
  spot_inside some h =
      let low : t / num + column < stride = lt_of_mul-lt-mul_right num (omega (arith, div-add-mod' t num, add-mul (t / num) column num)) in
      omega (arith, p.i, row_end num stride (t % num) (mod-lt t some))

-- the first tap
pub spot_first : (num stride row column : ℕ) → row < num → Spotted num stride column (row + 0) (record { row = row; i = row * stride + column })
spot_first num stride row column h =
    let d = divided num 0 row {t = row + 0} (omega (arith, zero-mul num)) h in
    record { row = sym d.1; i = rw (d.0, d.1) (omega arith) }

-- every tap stands within the layout
pub tap_to : {w : Weave} {s : Strand} {j : ℕ} {p : Spot} → TapsFit w s → Spotted w.num w.stride s.column (s.row + j) p → j < w.n
    → (p.row < w.num) × (p.row * w.stride ≤ p.i) × (p.i < w.num * w.stride) × (w.stride ≤ w.num * w.stride)
tap_to {w} {s} {j = j} {p = p} f h l =
    let some : 0 < w.num = omega (arith, f.row_low) in (
      rw h.row (mod-lt (s.row + j) some),
      rw (h.row, h.i) (omega arith),
      spot_inside w.num w.stride h some (omega (arith, f.ends)),
      omega (arith, mul-le-mul_right {m = 1} {n = w.num} w.stride some, one-mul w.stride),
    )

-- the next tap of a window
pub tap_next : {num stride column : ℕ} (row j : ℕ) {s : Spot} → Spotted num stride column (row + j + 1) s → Spotted num stride column (row + (j + 1)) s
tap_next row j p = rw (← add_assoc row j 1) p

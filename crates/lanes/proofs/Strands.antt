-- Strands of outputs, and the class that they make up.
--     strand_along, lanes_along                    a strand further on
--     strand_at, strand_next, column_to            what its outputs ask, and its next one
--     filled_some                                  some outputs at once
--     filled_on, lanes_on                          outputs after outputs
--     class_lanes                                  all outputs of a class
-- Assumes nothing.
use mathlib.Core.Path.{◌≡◌, refl, sym, ap, ◌∙◌}
use mathlib.Core.List.{List}
use Prim.Native.Nat.{ℕ, zero, suc, ◌+◌, ◌*◌, ◌/◌, ◌%◌, ◌^◌, ◌≤◌, ◌<◌}
use native.Mathlib.Nat.{add-mul, add_assoc, add-zero, zero-mul, mul-one, one-mul, mul_comm, mul-le-mul_left, mul-le-mul_right, mod-lt, div-add-mod'}
use native.Mathlib.Omega.{arith}
use lib.ListN.{take, drop}
use lib.Seq.{get_or-drop}
use Rattle.std.proofs.lemmas.List.{get_or-take}
use lib.Ieee.{Float, nan}
use Rattle.kernel.specs.Sums.{at, sum_to, direct_sum}
use Rattle.kernel.specs.Step.{step_of}
use Rattle.kernel.specs.declared.Phase.{Phase}
use Rattle.kernel.specs.declared.Phase.TheVariants.{Direct}
use Rattle.lanes.specs.Layout.{Woven}
use Rattle.lanes.specs.Class.{ClassFits, Classed}
use Rattle.lanes.specs.Inner.{spot, lane_sum, Strewn, along, StrandFits, LanesFit, lane_of, Begun}
use Rattle.lanes.specs.declared.Strand.{Strand}
use Rattle.lanes.specs.declared.Weave.{Weave}
use Rattle.lanes.proofs.Strewing.{strewn_same, strewn_on, strewn_then}

-- ---- further on

along_along : (den m j : ℕ) (s : Strand) {t u : Strand} → t ≡ along den m s → u ≡ along den j t → u ≡ along den (m + j) s
along_along den m j s e h = rw (h, e) (simp (add-mul, add_assoc))

module _ {w : Weave} {s t : Strand} (m : ℕ) (e : t ≡ along w.den m s) (low : t.from < 2 ^ 62) where
  pub strand_along : {end out : ℕ} → StrandFits w s end out → StrandFits w t end out
  strand_along f =
      record {
        num_some = f.num_some;
        den_some = f.den_some;
        den_to = f.den_to;
        from_to = low;
        room = f.room;
        ends = rw e (λ k h. rw (add_assoc s.column m k) (f.ends (m + k) (omega (arith, add-mul m k w.den))));
      }

  pub lanes_along : {out : ℕ} → LanesFit w s out → LanesFit w t out
  lanes_along f = record { strand = strand_along f.strand; row_low = rw e f.row_low }

-- output m of a strand: its window starts in time, so no number of it is large
pub strand_at : {w : Weave} {s : Strand} {end out : ℕ} → StrandFits w s end out → (m : ℕ) → s.from + m * w.den < w.count
    → ((s.column + m) * w.num + s.row + w.n ≤ end) × (s.column + m ≤ end)
strand_at {w} {s} f m h =
    (f.ends m h, omega (arith, f.ends m h, mul-le-mul_left {m = 1} {n = w.num} (s.column + m) f.num_some, mul-one (s.column + m)))

-- the next output of a strand: its window starts in time, so no number of it is large
pub strand_next : {w : Weave} {s : Strand} {end out : ℕ} → StrandFits w s end out → s.from < w.count
    → (s.column * w.num + s.row + w.n ≤ end) × (s.column ≤ end)
strand_next {w} {s} f h =
    let ends : s.column * w.num + s.row + w.n ≤ _ = rw add-zero at (f.ends 0 (omega (arith, zero-mul w.den))) in
    (ends, omega (arith, mul-le-mul_left {m = 1} {n = w.num} s.column f.num_some, mul-one s.column))

-- its column is one of the layout's
pub column_to : {w : Weave} {s : Strand} {size out : ℕ} → LanesFit w s out → s.from < w.count → w.num * w.stride + 32 ≤ size → s.column + 32 ≤ size
column_to {w} f h rows = omega (arith, (strand_next f.strand h).1, rows, mul_comm w.num w.stride)

-- ---- outputs after outputs

-- the next m outputs at once
pub filled_some : {before after : List Float} {w : Weave} {s t : Strand} {f : ℕ → Float} {end out : ℕ} (m : ℕ) → 0 < m → m ≤ 32
    → StrandFits w s end out → s.from < w.count → out < 2 ^ 61 → t ≡ along w.den m s
    → Strewn before after s.from w.den w.count m f → (s.from < t.from) × Begun before after w s t f
filled_some {w = w} {s = s} {t = t} m some most f h low e p =
    let moved : t.from ≡ s.from + m * w.den = ap (λ (v : Strand). v.from) e in
    let least : 1 * w.den ≤ m * w.den = mul-le-mul_right w.den some in
    let far : m * w.den ≤ 32 * w.den = mul-le-mul_right w.den most in (
      omega (arith, one-mul w.den, f.den_some),
      record { m = m; strand = e; from_to = omega (arith, f.den_to, f.room); out = p },
    )

-- some after others
filled_on : {before between after : List Float} {w : Weave} {s t u : Strand} {f g : ℕ → Float} → 0 < w.den
    → Begun before between w s t f → Begun between after w t u g → ((m l : ℕ) → t ≡ along w.den m s → g l ≡ f (m + l))
    → Begun before after w s u f
filled_on {w = w} {s = s} {t = t} some p q h =
    record {
      m = p.m + q.m;
      strand = along_along w.den p.m q.m s p.strand q.strand;
      from_to = q.from_to;
      out =
          strewn_on s.from w.den w.count p.out t.from q.m (ap (λ (v : Strand). v.from) p.strand) q.out some
          (λ l b c. h p.m l p.strand);
    }

-- a lane of a strand further on is a later one of the strand
lane_along : (w : Weave) (coefs x : List Float) (s : Strand) {t : Strand} (m l : ℕ) → t ≡ along w.den m s → lane_of w coefs x t l ≡ lane_of w coefs x s (m + l)
lane_along w coefs x s m l e = rw (e, add_assoc s.column m l)

pub lanes_on : {before between after : List Float} {w : Weave} {s t u : Strand} (coefs x : List Float) → 0 < w.den
    → Begun before between w s t (lane_of w coefs x s) → Begun between after w t u (lane_of w coefs x t)
    → Begun before after w s u (lane_of w coefs x s)
lanes_on {w = w} {s = s} coefs x some p q = filled_on some p q (lane_along w coefs x s)

-- ---- a whole class

-- a sample of the layout is one of the window
neighbour : {x window : List Float} {num stride reach : ℕ} → Woven x window num stride reach → 0 < num → (row column j : ℕ)
    → column * num + row + j < reach → at x (spot num stride (row + j) + column) ≡ at (drop (column * num + row) window) j
neighbour {x} {window} {num} {stride} w some row column j h =
    let t : ℕ = row + j in
    let place : (t / num + column) * num + t % num ≡ column * num + row + j = omega (arith, add-mul (t / num) column num, div-add-mod' t num) in
    ap (at x) (add_assoc (t % num * stride) (t / num) column)
    ∙ w.each (t % num) (t / num + column) (mod-lt t some) (omega arith)
    ∙ ap (at window) place
    ∙ sym (get_or-drop (column * num + row) window j nan)

-- so a lane, over the first coefficients of the table, is the sum of the direct kernel
lane_is : {x window : List Float} {num stride reach : ℕ} → Woven x window num stride reach → 0 < num → (n : ℕ) (row coefs : List Float) (r column : ℕ)
    → ((j : ℕ) → j < n → at row j ≡ at coefs j) → column * num + r + n ≤ reach
    → lane_sum num stride n row x r column ≡ direct_sum n coefs (drop (column * num + r) window)
unfolding sum_to
lane_is w some zero row coefs r column same h = refl
lane_is w some (suc n) row coefs r column same h =
    rw (lane_is w some n row coefs r column (λ j l. same j (omega arith)) (omega arith), same n (omega arith), neighbour w some r column n (omega arith))

-- where the window of output m starts
starts : (num shift m : ℕ) → (shift / num + m) * num + shift % num ≡ shift + m * num
starts num shift m = omega (arith, add-mul (shift / num) m num, div-add-mod' shift num)

-- the strand that the class starts as
abbrev pub strand_of : ℕ → ℕ → ℕ → Strand
strand_of num shift from = record { row = shift % num; column = shift / num; from = from }

module _ {w : Weave} {shift from size window out : ℕ} (f : ClassFits w shift from size window out) where
  pub strand_fits : (end : ℕ) → w.reach ≤ end → StrandFits w (strand_of w.num shift from) end out
  strand_fits end h =
      record {
        num_some = f.num_some;
        den_some = omega (arith, f.from_low);
        den_to = f.den_to;
        from_to = omega (arith, f.from_low, f.den_to);
        room = f.room;
        ends = λ m l. omega (arith, f.within m l, starts w.num shift m);
      }

-- side by side, and the rest one by one
pub class_lanes : {w : Weave} {shift from size long out : ℕ} → ClassFits w shift from size long out
    → (phase : Phase) (row oversample : ℕ) (coefs window : List Float) {x before between after : List Float} {t : Strand}
    → phase ≡ Direct row → Woven x window w.num w.stride w.reach
    → Begun before between w (strand_of w.num shift from) t (lane_of w (take w.n (drop (row * w.n) coefs)) x (strand_of w.num shift from))
    → Classed between after t.from w.den w.count (λ m. step_of phase w.n oversample coefs (drop ((t.column + m) * w.num + t.row) window))
    → Classed before after from w.den w.count (λ m. step_of phase w.n oversample coefs (drop (shift + m * w.num) window))
unfolding step_of
class_lanes {w} {shift} {from} f phase row oversample coefs window {x = x} {t = t} e woven p c =
    strewn_then from w.den w.count t.from (strewn_same from w.den w.count p.out lane)
    (ap (λ (v : Strand). v.from) p.strand) c (omega (arith, f.from_low)) later
  where
    lane : (l : ℕ) → l < p.m → from + l * w.den < w.count
        → lane_of w (take w.n (drop (row * w.n) coefs)) x (strand_of w.num shift from) l ≡ step_of phase w.n oversample coefs (drop (shift + l * w.num) window)
    lane l b h =
        rw (e, ← starts w.num shift l)
        (lane_is woven f.num_some w.n (take w.n (drop (row * w.n) coefs)) (drop (row * w.n) coefs) (shift % w.num) (shift / w.num + l)
        (λ j z. get_or-take w.n (drop (row * w.n) coefs) j nan z) (omega (arith, f.within l h, starts w.num shift l)))

    later : (l : ℕ) → t.from + l * w.den < w.count
        → step_of phase w.n oversample coefs (drop ((t.column + l) * w.num + t.row) window) ≡ step_of phase w.n oversample coefs (drop (shift + (p.m + l) * w.num) window)
    later l h = rw (p.strand, add_assoc, starts w.num shift (p.m + l))

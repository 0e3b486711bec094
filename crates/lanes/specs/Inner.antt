-- What the functions within this crate promise each other. Assumes nothing.
use Rattle.std.specs.Prelude.{◌≡◌, List, [], ◌∷◌, ℕ, zero, suc, ◌+◌, ◌*◌, ◌/◌, ◌%◌, ◌^◌, ◌≤◌, ◌<◌, length, Float}
use Rattle.math.specs.Operators.{◌*ᶠ◌}
use Rattle.std.specs.Coded.{le_prop}
use Rattle.std.proofs.Props.{props}
use Rattle.kernel.specs.Sums.{at, sum_to}
use Rattle.kernel.specs.Interpolated.{spread}
use Rattle.kernel.specs.Step.{Reaches}
use Rattle.kernel.specs.declared.Phase.{Phase}
use Rattle.kernel.specs.declared.Phase.TheVariants.{Direct, Interpolated}
use Rattle.lanes.specs.declared.Spot.{Spot}
use Rattle.lanes.specs.declared.Strand.{Strand}
use Rattle.lanes.specs.declared.Weave.{Weave}

-- ---- a row of the layout

-- what a row asks: every num-th sample from `from` on, below reach, has an entry, the first of them `start`
pub record RowFits (start from num reach size window : ℕ) : Type 0 where
  pub num_some : 0 < num
  pub num_to : num ≤ 2 ^ 32
  pub entries : (q : ℕ) → from + q * num < reach → start + q < size
  pub held : reach ≤ window

-- it holds them, and what lies before it is as it was
pub record RowLaid (before after window : List Float) (start from num reach : ℕ) : Type 0 where
  pub long : length after ≡ length before
  pub these : (q : ℕ) → from + q * num < reach → at after (start + q) ≡ at window (from + q * num)
  pub others : (i : ℕ) → i < start → at after i ≡ at before i

-- ---- sums side by side

-- where tap t stands, counted from row 0: in the row of its remainder, as many columns on as num goes into t
abbrev pub spot : ℕ → ℕ → ℕ → ℕ
spot num stride t = t % num * stride + t / num

-- s is that place, `column` columns on
pub record Spotted (num stride column t : ℕ) (s : Spot) : Type 0 where
  pub row : s.row ≡ t % num
  pub i : s.i ≡ spot num stride t + column

-- n coefficients times the samples that they meet in the layout from row `row` and column `column` on, summed from 0.0
abbrev pub lane_sum : ℕ → ℕ → ℕ → List Float → List Float → ℕ → ℕ → Float
lane_sum num stride n coefs x row column = sum_to n (λ j. at coefs j *ᶠ at x (spot num stride (row + j) + column))

-- f 0, f 1, f 2 and f 3
abbrev pub fours : (ℕ → Float) → List Float
fours f = f 0 ∷ f 1 ∷ f 2 ∷ f 3 ∷ []

-- f 0, f 1, .. as q fours
abbrev pub sums_of : ℕ → (ℕ → Float) → List (List Float)
sums_of zero f = []
sums_of (suc q) f = fours f ∷ sums_of q (λ l. f (4 + l))

-- coefficient k times the neighbours from entry i on, added to the sums: to each four of them the next four
abbrev pub add_tap : List (List Float) → Float → List Float → ℕ → List (List Float)
add_tap [] k x i = []
add_tap (s ∷ r) k x i = spread s k x i ∷ add_tap r k x (i + 4)

-- the taps of the window that starts at the strand's row and column stand in the rows of the layout
pub record TapsFit (w : Weave) (s : Strand) : Type 0 where
  pub row_low : s.row < w.num
  pub ends : s.column * w.num + s.row + w.n ≤ w.stride * w.num

-- ---- outputs den apart

-- of the entries from, from + by, from + 2 * by, .. the first m, as far as they lie below count, hold f 0, f 1, ..; all others are as before
pub record Strewn (before after : List Float) (from by count m : ℕ) (f : ℕ → Float) : Type 0 where
  pub long : length after ≡ length before
  pub these : (l : ℕ) → l < m → from + l * by < count → at after (from + l * by) ≡ f l
  pub others : (k : ℕ) → ((l : ℕ) → l < m → k ≡ from + l * by → count ≤ k) → at after k ≡ at before k

-- the strand m outputs on
abbrev pub along : ℕ → ℕ → Strand → Strand
along den m s = record { row = s.row; column = s.column + m; from = s.from + m * den }

-- what the outputs of a strand ask: no window runs past `end`, and there is room for them
pub record StrandFits (w : Weave) (s : Strand) (end out : ℕ) : Type 0 where
  pub num_some : 0 < w.num
  pub den_some : 0 < w.den
  pub den_to : w.den ≤ 2 ^ 32
  pub from_to : s.from < 2 ^ 62
  pub room : w.count ≤ out
  pub ends : (m : ℕ) → s.from + m * w.den < w.count → (s.column + m) * w.num + s.row + w.n ≤ end

-- and if they are to be made side by side
pub record LanesFit (w : Weave) (s : Strand) (out : ℕ) : Type 0 where
  pub strand : StrandFits w s (w.stride * w.num) out
  pub row_low : s.row < w.num

-- output l of strand s, summed over the layout
abbrev pub lane_of : Weave → List Float → List Float → Strand → ℕ → Float
lane_of w coefs x s l = lane_sum w.num w.stride w.n coefs x s.row (s.column + l)

-- the first outputs of strand s are made, f 0, f 1, .., and t is the strand after them
pub record Begun (before after : List Float) (w : Weave) (s t : Strand) (f : ℕ → Float) : Type 0 where
  pub m : ℕ
  pub strand : t ≡ along w.den m s
  pub from_to : t.from < 2 ^ 62
  pub out : Strewn before after s.from w.den w.count m f

-- there is at most one proof that the table holds what the phase reads. It stands in specs/ since a ghost field of `Steps` cites it, and a `ghost use`
-- takes nothing else of its own crate
pub reaches_prop : (p : Phase) (n oversample size : ℕ) → IsProp (Reaches p n oversample size)
reaches_prop (Direct row) n oversample size = le_prop
reaches_prop (Interpolated offset f) n oversample size = Prim.hlevel props

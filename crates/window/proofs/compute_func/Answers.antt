-- `window::compute_func` meets its contract: the floor is at most 32 (`proofs/Bounds.antt`), so 35 is the last entry read; each literal of the table is the f64 nearest to its decimal in `kaiser_digits`, which antt computes.
-- Assumes nothing.
use Rattle.std.proofs.Common.{ℕ, ◌^◌, ◌≤◌, sym, refl, subst, le_trans, lit≤, le→leb}
use lib.Ieee.{of_bits, of_int, in_float}
use Rattle.math.specs.Numerals.{decimal64}
use Rattle.window.specs.Window.{kaiser, window_at}
use Rattle.window.proofs.Bounds.{times_32}
use Rattle.window.proofs.compute_func.Goals as goal
use Rattle.window.proofs.compute_func.Goals.{After-floor-ind}

index-le : (c : After-floor-ind) → c.floor-ind.result ≤ 32
unfolding of_bits of_int
index-le c = subst (λ (n : ℕ). n ≤ 32) (sym c.floor-ind.ensures) (times_32 c.args.x c.requires)

pub int_to_float-ind : goal.int_to_float-ind
unfolding in_float
int_to_float-ind c = le→leb c.floor-ind.result (2 ^ 24) (le_trans (index-le (goal.at-int_to_float-ind c).After-floor-ind) (lit≤ tt))

pub weighted_sum-requires : goal.weighted_sum-requires
unfolding kaiser decimal64 of_bits
weighted_sum-requires c = (refl, index-le (goal.at-weighted_sum-requires c).After-floor-ind)

pub returns : goal.returns
unfolding window_at of_bits of_int
returns c =
    rw (c.weighted_sum.ensures, c.weights_at.ensures, c.f32_to_f64_with_nan-f.ensures, c.floor-ind.ensures)

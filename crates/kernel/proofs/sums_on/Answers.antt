-- `kernel::sums_on` meets its contract. Assumes nothing.
use Rattle.std.proofs.Common.{◌≡◌, ◌+◌, ◌*◌, ◌≤◌, ℕ, List, ap, ◌∙◌, mul-le-mul_right, add-mul, one-mul, arith}
use lib.Ieee.{Float}
use Rattle.kernel.specs.Sums.{at}
use Rattle.kernel.specs.Interpolated.{spread}
use Rattle.kernel.proofs.Turns.{four_turn, tap_turn, entries_within}
use Rattle.kernel.proofs.sums_on.Goals as goal
use Rattle.kernel.proofs.sums_on.Goals.{In-loop-j, Start}

-- the first index is not far past the table, even where no sample is left
first_ends : (c : Start) → (c.args.from + 1) * c.args.oversample ≤ c.args.to * c.args.oversample + c.args.oversample
first_ends c =
    let o = c.args.oversample in
    omega (arith, mul-le-mul_right o c.requires.from_le_to.0, add-mul c.args.from 1 o, one-mul o)

-- the coefficients that the turn reads lie within the table
fits : (c : In-loop-j) →
    let j = c.loop-j.j in let o = c.args.oversample in
    (o ≤ (j + 1) * o) × ((j + 1) * o ≤ c.args.to * o)
fits c = entries_within c.args.oversample c.loop-j-test.true

pub overflow_mul-idx : goal.overflow_mul-idx
overflow_mul-idx c = omega (arith, first_ends (goal.at-overflow_mul-idx c).Start)

pub overflow_add-idx-2 : goal.overflow_add-idx-2
overflow_add-idx-2 c = omega (arith, first_ends (goal.at-overflow_add-idx-2 c).Start)

pub spread-next-requires : goal.spread-next-requires
spread-next-requires c = omega (arith, fits (goal.at-spread-next-requires c).In-loop-j)

pub overflow_add-idx-in-loop-j : goal.overflow_add-idx-in-loop-j
overflow_add-idx-in-loop-j c = omega (arith, fits (goal.at-overflow_add-idx-in-loop-j c).In-loop-j)

-- the same sums, by where the sample's coefficients start
at_start : (s : List Float) (x : Float) (coefs : List Float) {i k : ℕ} {r : List Float} → i ≡ k → r ≡ spread s x coefs i → r ≡ spread s x coefs k
at_start s x coefs e g = g ∙ ap (spread s x coefs) e

pub loop-j-preserved : goal.loop-j-preserved
loop-j-preserved c =
    let v = c.loop-j.invariant in
    (tap_turn _ _ _ (omega (arith, c.requires)) v.0, four_turn _ _ _ _ _ v.1 (at_start c.loop-j.accum (at c.args.window.now c.loop-j.j) c.args.coefs.now v.0 c.spread-next.ensures))

-- `sixteen::nearest_steps` meets its contract (`proofs/Steps.antt`). Assumes nothing.
use Rattle.std.proofs.Common.{ℕ, ◌+◌, ◌/◌, ap, ◌∙◌, arith}
use lib.Ieee.{of_bits}
use Rattle.math.proofs.Pick.{passed, failed}
use Rattle.sixteen.proofs.Steps.{Halved, to_halves, from_one}
use Rattle.sixteen.proofs.nearest_steps.Goals as goal

below_one : (c : goal.Else-x) → Halved c.args.x
unfolding of_bits
below_one c = to_halves c.args.x (passed c.well_formed.0.1) c.requires (failed c.if-x.false)

pub returns-then-x : goal.returns-then-x
unfolding of_bits
returns-then-x c = from_one c.args.x (passed c.if-x.true)

pub truncating_f32_to_u64-halves-requires : goal.truncating_f32_to_u64-halves-requires
unfolding of_bits
truncating_f32_to_u64-halves-requires c = record { lower_bound = (below_one c).above; upper_bound = (below_one c).inside }

pub overflow_add-result : goal.overflow_add-result
unfolding of_bits
overflow_add-result c = omega (arith, (below_one c.before).small, c.truncating_f32_to_u64-halves.ensures)

pub overflow_cast-result : goal.overflow_cast-result
unfolding of_bits
overflow_cast-result c = omega (arith, (below_one c.before).small, c.truncating_f32_to_u64-halves.ensures)

pub returns : goal.returns
unfolding of_bits
returns c = ap (λ (q : ℕ). (q + 1) / 2) c.truncating_f32_to_u64-halves.ensures ∙ (below_one c.before).is

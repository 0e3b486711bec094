-- `sixteen::step_count` meets its contract: by x's sign, which changes no magnitude, from what `nearest_steps` ensures (`proofs/Signs.antt`).
-- Assumes nothing.
use Rattle.std.proofs.Common.{◌∙◌}
use lib.Ieee.{of_bits}
use Rattle.math.proofs.Pick.{passed, failed}
use Rattle.sixteen.proofs.Signs.{steps_neg, neg_above, neither}
use Rattle.sixteen.proofs.step_count.Goals as goal

pub nearest_steps-requires : goal.nearest_steps-requires
unfolding of_bits
nearest_steps-requires c = passed c.if-x.true

pub nearest_steps-requires-then-x-2 : goal.nearest_steps-requires-then-x-2
unfolding of_bits
nearest_steps-requires-then-x-2 c = neg_above c.args.x (passed c.if-x-2.true)

pub returns-then-x-2 : goal.returns-then-x-2
returns-then-x-2 c = c.nearest_steps-then-x-2.ensures ∙ steps_neg c.args.x

pub returns : goal.returns
unfolding of_bits
returns c = neither c.args.x (failed c.if-x.false) (failed c.if-x-2.false)

-- `abreast::step_four` meets its contract. Assumes nothing.
use Rattle.std.proofs.Common.{rules}
use Rattle.kernel.specs.Step.{step_of}
use Rattle.kernel.proofs.Parts.{rest}
use Rattle.abreast.proofs.step_four.Goals as goal

pub returns-in-Direct : goal.returns-in-Direct
unfolding step_of
returns-in-Direct c = search (rules, rest)

pub returns-in-Interpolated : goal.returns-in-Interpolated
unfolding step_of
returns-in-Interpolated c = search rules

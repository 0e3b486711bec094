-- `kernel::step` meets its contract. In each arm `is` says which variant the phase is. Assumes nothing.
use Rattle.kernel.specs.Step.{step_of}
use Rattle.kernel.proofs.Parts.{rest}
use Rattle.kernel.proofs.step.Goals as goal

pub returns-in-Direct : goal.returns-in-Direct
unfolding step_of
returns-in-Direct c = rw (c.in-Direct.is, ← rest) c.direct_step.ensures

pub returns-in-Interpolated : goal.returns-in-Interpolated
unfolding step_of
returns-in-Interpolated c = rw c.in-Interpolated.is c.interpolate_step.ensures

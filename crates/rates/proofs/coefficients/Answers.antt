-- `rates::coefficients` meets its contract: each kernel has its own line of the definition. Assumes nothing.
use Rattle.rates.specs.Setting.{coefficients_of}
use Rattle.rates.proofs.coefficients.Goals as goal

pub returns-in-Unset : goal.returns-in-Unset
unfolding coefficients_of
returns-in-Unset c = rw c.in-Unset.is

pub returns-in-Direct : goal.returns-in-Direct
unfolding coefficients_of
returns-in-Direct c = rw c.in-Direct.is

pub returns-in-Interpolated : goal.returns-in-Interpolated
unfolding coefficients_of
returns-in-Interpolated c = rw c.in-Interpolated.is

-- `state::ResamplerState::zero` meets its contract: antt works out 0.0. Assumes nothing.
use mathlib.Core.Path.{refl}
use lib.Ieee.{of_bits}
use Rattle.state.specs.State.{zero_state}
use Rattle.state.proofs.ResamplerState.zero.Goals as goal

pub returns : goal.returns
unfolding zero_state of_bits
returns c = refl

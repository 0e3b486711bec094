-- `state::ResamplerState::fresh` meets its contract: antt works out 1.0, and the callee's are the zeros. Assumes nothing.
use lib.Ieee.{of_bits, of_int}
use Rattle.state.specs.State.{fresh_state, zero_state}
use Rattle.state.proofs.ResamplerState.fresh.Goals as goal

pub returns : goal.returns
unfolding fresh_state zero_state of_bits of_int
returns c = rw c.zero.ensures

-- `state::ResamplerState::in_place` meets its contract: the tests in the order of the list. Assumes nothing.
use native.Mathlib.Nat.{add-zero}
use Rattle.state.specs.Belongs.{place_tests}
use Rattle.state.proofs.ResamplerState.in_place.Goals as goal

pub returns : goal.returns
unfolding place_tests
returns c = rw (c.history_with.ensures, c.history_with-2.ensures, add-zero)

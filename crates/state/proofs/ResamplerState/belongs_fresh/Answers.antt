-- `state::ResamplerState::belongs_fresh` meets its contract: the tests in the order of the list. Assumes nothing.
use native.Mathlib.Omega.{arith}
use Rattle.state.specs.State.{fresh_state}
use Rattle.state.specs.Belongs.{fresh_tests}
use Rattle.state.proofs.ResamplerState.belongs_fresh.Goals as goal

pub setting-requires : goal.setting-requires
unfolding fresh_state
setting-requires c = rw c.fresh-fresh.ensures (omega arith)

pub returns : goal.returns
unfolding fresh_tests
returns c =
    rw (
      c.in_limits.ensures,
      c.has_setting.ensures,
      c.setting.ensures,
      c.fresh-fresh.ensures,
    )

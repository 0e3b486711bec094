-- `state::ResamplerState::belongs_rated` meets its contract: out of limits one of the first two tests fails, and so all do. Assumes nothing.
use mathlib.Core.Path.{◌≡◌, sym}
use mathlib.Core.Bool.{true, ◌&&◌}
use Rattle.sizes.specs.Sizes.{in_limits}
use Rattle.sizes.proofs.Tests.{both, test_passed}
use Rattle.state.proofs.Belonging.{in_limits_rest, out_of_limits}
use Rattle.state.proofs.ResamplerState.belongs_rated.Goals as goal
use Rattle.state.proofs.ResamplerState.belongs_rated.Goals.{Then-in_limits}

-- both rates are in limits
limits-at : (c : Then-in_limits) → in_limits c.args.self.source && in_limits c.args.self.target ≡ true
limits-at c = rw (← c.in_limits.ensures, ← c.in_limits-2.ensures) c.if-in_limits.true

pub new-given-requires : goal.new-given-requires
new-given-requires c =
    let s = c.args.self in
    let p = both (in_limits s.source) (in_limits s.target) (limits-at c) in
    (c.requires, test_passed s.source p.0, test_passed s.target p.1)

pub returns-then-in_limits : goal.returns-then-in_limits
returns-then-in_limits c =
    rw (c.has_setting.ensures, c.in_place.ensures, c.new-given.ensures)
    (sym (in_limits_rest _ _ (limits-at (goal.at-returns-then-in_limits c).Then-in_limits)))

pub returns : goal.returns
returns c =
    sym (out_of_limits _ c.args.self (rw (← c.in_limits.ensures, ← c.in_limits-2.ensures) c.if-in_limits.false))

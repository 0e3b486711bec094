-- `state::ResamplerState::belongs` meets its contract: a source of 0 decides which list of tests it is. Assumes nothing.
use native.Mathlib.Omega.{arith}
use borrow.Author.Tests.{eq-eqb, ne_eqb}
use Rattle.state.specs.Belongs.{belongs_together}
use Rattle.state.proofs.ResamplerState.belongs.Goals as goal

pub returns-then-self-eq0 : goal.returns-then-self-eq0
unfolding belongs_together
returns-then-self-eq0 c = rw (eq-eqb c.args.self.source 0 (omega arith), c.belongs_fresh.ensures)

pub returns : goal.returns
unfolding belongs_together
returns c = rw (ne_eqb c.args.self.source 0 (λ q. omega arith), c.belongs_rated.ensures)

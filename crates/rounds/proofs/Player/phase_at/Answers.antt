-- `rounds::Player::phase_at` meets its contract: each arm is the definition at the variant that the match names. Assumes nothing.
use mathlib.Core.Logic.{inl, inr}
use Rattle.rounds.specs.Output.{phase_by}
use Rattle.rounds.proofs.Player.phase_at.Goals as goal

pub returns-in-Unset : goal.returns-in-Unset
unfolding phase_by
returns-in-Unset c = elim c.in-Unset.is [ inl e ↦ rw e | inr e ↦ rw e ]

pub returns-in-Interpolated : goal.returns-in-Interpolated
unfolding phase_by
returns-in-Interpolated c = rw (c.in-Interpolated.is, c.small.ensures, c.small-in-Interpolated.ensures)

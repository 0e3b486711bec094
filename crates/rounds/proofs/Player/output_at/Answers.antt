-- `rounds::Player::output_at` meets its contract: the kernel is given the whole history from the position on, and only the first n entries of that count. Assumes nothing.
use native.Mathlib.Omega.{arith}
use lib.ListN.{length-take, length-drop}
use Rattle.kernel.proofs.Parts.{rest}
use Rattle.rounds.specs.Rounds.{place_of}
use Rattle.rounds.proofs.Phases.{reaches, output_here}
use Rattle.rounds.proofs.Player.output_at.Goals as goal

pub step-requires : goal.step-requires
step-requires c =
    record { n_in_bounds = simp (length-take, length-drop) (omega arith); reaches = rw c.phase_at-phase.ensures (reaches c.args.self.now.playable c.requires.0 c.args.self.now.table) }

pub returns : goal.returns
returns c =
    let a = c.args in
    output_here a.self.now.setting (place_of a.place) a.self.now.coefs.now a.self.now.mem.now c.phase_at-phase.ensures
    (simp rest at c.step.ensures)

-- `rounds::Player::output_four` meets its contract: the windows are counted from the first of them, each phase reaches no further than the table, and
-- each output is that at its place. Assumes nothing.
use Rattle.std.proofs.Common.{refl, sym, ◌∙◌}
use native.Mathlib.Omega.{arith}
use lib.ListN.{length-drop}
use Rattle.kernel.proofs.Parts.{rest, reaches_at}
use Rattle.abreast.proofs.Four.{four_is}
use Rattle.rounds.specs.Rounds.{place_of}
use Rattle.rounds.proofs.Phases.{reaches, output_here, output_from}
use Rattle.rounds.proofs.Player.output_four.Goals as goal

pub step_four-requires : goal.step_four-requires
step_four-requires c =
    let p = c.requires.in_order in
    let g = c.args.self.now.playable in
    let t = c.args.self.now.table in
    let w = c.requires.stands in (
      record {
        a_b = omega (arith, p);
        a_c = omega (arith, p);
        b_d = omega (arith, p);
        c_d = omega (arith, p);
        last = rw (rest, length-drop) (omega (arith, p, w.3.window));
      },
      record {
        a = reaches_at _ _ _ (sym c.phase_at.ensures) (reaches g w.0.phase t);
        b = reaches_at _ _ _ (sym c.phase_at-2.ensures) (reaches g w.1.phase t);
        c = reaches_at _ _ _ (sym c.phase_at-3.ensures) (reaches g w.2.phase t);
        d = reaches_at _ _ _ (sym c.phase_at-4.ensures) (reaches g w.3.phase t);
      },
    )

pub returns : goal.returns
returns c =
    let x = c.args in
    let s = x.self.now.setting in
    let coefs = x.self.now.coefs.now in
    let mem = x.self.now.mem.now in
    let p = c.requires.in_order in
    let at = x.a.position in
    simp rest at c.step_four.ensures
    ∙ four_is
    (output_here s (place_of x.a) coefs mem c.phase_at.ensures refl)
    (output_from s (place_of x.b) at coefs mem (omega (arith, p)) c.phase_at-2.ensures refl)
    (output_from s (place_of x.c) at coefs mem (omega (arith, p)) c.phase_at-3.ensures refl)
    (output_from s (place_of x.d) at coefs mem (omega (arith, p)) c.phase_at-4.ensures refl)

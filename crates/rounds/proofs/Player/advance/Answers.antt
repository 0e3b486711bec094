-- `rounds::Player::advance` meets its contract: quotient and remainder are added, and den den-ths make one sample more. Assumes nothing.
use mathlib.Core.Path.{sym}
use Rattle.timeline.proofs.Places.{next_plain, next_carried}
use Rattle.rates.specs.Rated.{rate_with}
use Rattle.rounds.specs.Rounds.{place_of}
use Rattle.rounds.proofs.Player.advance.Goals as goal

pub returns-then-phase-den : goal.returns-then-phase-den
returns-then-phase-den c =
    let a = c.args in
    let g = c.args.self.now.playable in
    rw (g.int_advance, g.frac_advance)
    (sym (next_carried (rate_with a.self.now.setting 0) g.terms.den_from (place_of a.place) c.requires.0 (rw g.frac_advance at c.if-phase-den.true)))

pub returns : goal.returns
returns c =
    let a = c.args in
    let g = c.args.self.now.playable in
    rw (g.int_advance, g.frac_advance)
    (sym (next_plain (rate_with a.self.now.setting 0) (place_of a.place) (rw g.frac_advance at c.if-phase-den.false)))

-- `rounds::Player::outputs_ahead` meets its contract: before the samples' end the count is the room, or what stands before the end. Assumes nothing.
use mathlib.Core.Path.{◌∙◌}
use Rattle.rates.specs.Rated.{rate_with}
use Rattle.rounds.specs.Rounds.{place_of}
use Rattle.rounds.proofs.Counts.{count_is}
use Rattle.rounds.proofs.Player.outputs_ahead.Goals as goal

pub returns : goal.returns
returns c =
    let a = c.args in
    let t = c.args.self.now.playable.terms in
    c.min.ensures
    ∙ count_is (rate_with a.self.now.setting 0) t.num_from t.den_from a.in_len (place_of a.place) c.requires.0 c.if-place-in_len.false a.room

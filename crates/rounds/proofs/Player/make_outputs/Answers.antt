-- `rounds::Player::make_outputs` meets its contract: by classes or side by side, the run is the same. Assumes nothing.
use mathlib.Core.Path.{◌≡◌, ◌∙◌}
use Prim.Native.Nat.{ℕ, ◌≤◌}
use native.Mathlib.Omega.{arith}
use lib.ListN.{length}
use Rattle.timeline.specs.Numbers.{made}
use Rattle.timeline.proofs.Places.{made_fits}
use Rattle.rates.specs.Rated.{rate_with}
use Rattle.rounds.specs.Rounds.{place_of}
use Rattle.rounds.proofs.Running.{numbered, run_fits}
use Rattle.rounds.proofs.Player.make_outputs.Goals as goal
use Rattle.rounds.proofs.Player.make_outputs.Goals.{Start}

-- no more outputs than the room
room : (c : Start) → {count : ℕ} → count ≡ made (rate_with c.args.self.now.setting 0) c.args.in_len (length c.args.out.now) (place_of c.args.place)
    → count ≤ length c.args.out.now
room c e = omega (arith, e, made_fits (rate_with c.args.self.now.setting 0) c.args.in_len (length c.args.out.now) (place_of c.args.place))

pub weave_for-requires : goal.weave_for-requires
weave_for-requires c = numbered (length c.args.out.now) c.requires c.outputs_ahead-count.ensures

pub make_classes-requires : goal.make_classes-requires
make_classes-requires c =
    let same = c.in-Some.ensures.0 ∙ c.outputs_ahead-count.ensures in
    (run_fits (length c.args.out.now) c.requires same, room (goal.at-make_classes-requires c).Start same, c.in-Some.ensures.1)

pub place_after-place-requires : goal.place_after-place-requires
place_after-place-requires c = numbered (length c.args.out.now) c.requires c.outputs_ahead-count.ensures

pub make_abreast-place-requires : goal.make_abreast-place-requires
make_abreast-place-requires c =
    let count = c.outputs_ahead-count.ensures in
    (run_fits (length c.args.out.now) c.requires count, room (goal.at-make_abreast-place-requires c).Start count)

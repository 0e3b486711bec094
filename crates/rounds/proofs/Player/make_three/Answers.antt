-- `rounds::Player::make_three` meets its contract: the fourth place is the third once more. Assumes nothing.
use mathlib.Core.Path.{◌≡◌, refl, sym, ap, ◌∙◌}
use native.Mathlib.Omega.{arith}
use lib.ListN.{length, take, get_or}
use lib.Seq.{get_or-take}
use lib.Ieee.{Float, nan}
use mathlib.Core.List.{List}
use Rattle.timeline.specs.Numbers.{next, ahead}
use Rattle.rates.specs.Rated.{rate_with}
use Rattle.rounds.specs.Rounds.{place_of}
use Rattle.rounds.proofs.Running.{here, later, one_on, four_values, side_by_side}
use Rattle.rounds.proofs.Player.make_three.Goals as goal
use Rattle.rounds.proofs.Player.make_three.Goals.{After-advance-b, After-advance-c}

-- the second and the third place, each from the one before
place-b : (c : After-advance-b) →
    let x = c.args in
    place_of c.advance-b.result ≡ ahead (rate_with x.self.now.setting 0) 1 (place_of x.before.place)
place-b c = c.advance-b.ensures

place-c : (c : After-advance-c) →
    let x = c.args in
    place_of c.advance-c.result ≡ ahead (rate_with x.self.now.setting 0) 2 (place_of x.before.place)
place-c c =
    let x = c.args in
    one_on (rate_with x.self.now.setting 0) 1 (place_of x.before.place) (place-b (goal.at-After-advance-c c).After-advance-b) c.advance-c.ensures

pub output_four-y-requires : goal.output_four-y-requires
output_four-y-requires c =
    let x = c.args in
    let f = c.requires.0 in
    let r = rate_with x.self.now.setting 0 in
    let ab = later r (place_of x.before.place) c.advance-b.ensures in
    let bc = later r (place_of c.advance-b.result) c.advance-c.ensures in
    let a = here 0 f refl (omega arith) in
    let b = here 1 f (place-b (goal.at-output_four-y-requires c).After-advance-b) (omega arith) in
    let third = here 2 f (place-c c) (omega arith) in
    record { in_order = (ab, omega (arith, ab, bc), bc, omega arith); stands = (a, b, third, third) }

pub advance-requires : goal.advance-requires
advance-requires c =
    let f = c.requires.0 in
    let third = here 2 f (place-c (goal.at-advance-requires c).After-advance-c) (omega arith) in
    (third.phase, omega (arith, third.position))

pub returns : goal.returns
returns c p was f =
    let x = c.args in
    let r = rate_with x.self.now.setting 0 in
    let eb = c.advance-b.ensures in
    let ec = c.advance-c.ensures in
    let y = c.output_four-y.result in
    let part = c.copy_from_slice.ensures.after in
    let three = part ∙ ap (take 3) c.output_four-y.ensures in
    side_by_side x.self.now.setting x.self.now.coefs.now x.self.now.mem.now p x.count was x.before.written 3 c.copy_from_slice.new.self f c.requires.1 (omega (arith, f.same, c.requires.2))
    (sym (ap length three))
    (λ j h. ap (λ (l : List Float). get_or l j nan) part
    ∙ get_or-take 3 y j nan h
    ∙ four_values x.self.now.setting x.self.now.coefs.now x.self.now.mem.now 3 _ _ _ _ (omega arith) c.output_four-y.ensures eb ec (λ u. absurd (omega arith)) j h)
    (c.advance.ensures ∙ ap (next r) (ec ∙ ap (next r) eb))

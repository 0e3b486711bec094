-- `rounds::Player::make_fours` meets its contract. The invariant: four outputs are made for each turn. Assumes nothing.
use mathlib.Core.Path.{◌≡◌, sym, ap, ◌∙◌}
use Prim.Native.Nat.{◌+◌, ◌*◌, ◌/◌}
use native.Mathlib.Omega.{arith}
use lib.ListN.{length}
use Rattle.timeline.specs.Numbers.{next, ahead}
use Rattle.rates.specs.Rated.{rate_with}
use Rattle.rounds.specs.Rounds.{place_of}
use Rattle.rounds.proofs.Running.{here, later, one_on, starts, four_values, side_by_side, recount}
use Rattle.rounds.proofs.Player.make_fours.Goals as goal
use Rattle.rounds.proofs.Player.make_fours.Goals.{After-advance-b, After-advance-c, After-advance-d}

-- the four places, each from the one before
place-b : (c : After-advance-b) →
    place_of c.advance-b.result ≡ ahead (rate_with c.args.self.now.setting 0) (4 * c.loop-quad.quad + 1) (place_of c.args.start)
place-b c =
    one_on (rate_with c.args.self.now.setting 0) (4 * c.loop-quad.quad) (place_of c.args.start) c.loop-quad.invariant.place c.advance-b.ensures

place-c : (c : After-advance-c) →
    place_of c.advance-c.result ≡ ahead (rate_with c.args.self.now.setting 0) (4 * c.loop-quad.quad + 1 + 1) (place_of c.args.start)
place-c c =
    one_on (rate_with c.args.self.now.setting 0) (4 * c.loop-quad.quad + 1) (place_of c.args.start) (place-b (goal.at-After-advance-c c).After-advance-b) c.advance-c.ensures

place-d : (c : After-advance-d) →
    place_of c.advance-d.result ≡ ahead (rate_with c.args.self.now.setting 0) (4 * c.loop-quad.quad + 1 + 1 + 1) (place_of c.args.start)
place-d c =
    one_on (rate_with c.args.self.now.setting 0) (4 * c.loop-quad.quad + 1 + 1) (place_of c.args.start) (place-c (goal.at-After-advance-d c).After-advance-c) c.advance-d.ensures

pub loop-quad-init : goal.loop-quad-init
loop-quad-init c =
    let x = c.args in
    starts x.self.now.setting x.self.now.coefs.now x.self.now.mem.now (place_of x.start) x.count _

pub advance-b-requires : goal.advance-b-requires
advance-b-requires c =
    let f = c.requires.0 in
    let a = here (4 * c.loop-quad.quad) f c.loop-quad.invariant.place (omega arith) in
    (a.phase, omega (arith, a.position))

pub advance-c-requires : goal.advance-c-requires
advance-c-requires c =
    let f = c.requires.0 in
    let b = here (4 * c.loop-quad.quad + 1) f (place-b c) (omega arith) in
    (b.phase, omega (arith, b.position))

pub advance-d-requires : goal.advance-d-requires
advance-d-requires c =
    let f = c.requires.0 in
    let b = here (4 * c.loop-quad.quad + 1 + 1) f (place-c c) (omega arith) in
    (b.phase, omega (arith, b.position))

pub output_four-y-requires : goal.output_four-y-requires
output_four-y-requires c =
    let f = c.requires.0 in
    let r = rate_with c.args.self.now.setting 0 in
    let ab = later r (place_of c.loop-quad.place) c.advance-b.ensures in
    let bc = later r (place_of c.advance-b.result) c.advance-c.ensures in
    let cd = later r (place_of c.advance-c.result) c.advance-d.ensures in record {
      in_order = (ab, omega (arith, ab, bc), omega (arith, bc, cd), cd);
      stands = (
        here (4 * c.loop-quad.quad) f c.loop-quad.invariant.place (omega arith),
        here (4 * c.loop-quad.quad + 1) f (place-b (goal.at-output_four-y-requires c).After-advance-b) (omega arith),
        here (4 * c.loop-quad.quad + 1 + 1) f (place-c (goal.at-output_four-y-requires c).After-advance-c) (omega arith),
        here (4 * c.loop-quad.quad + 1 + 1 + 1) f (place-d c) (omega arith),
      );
    }

pub advance-place-requires : goal.advance-place-requires
advance-place-requires c =
    let f = c.requires.0 in
    let d = here (4 * c.loop-quad.quad + 1 + 1 + 1) f (place-d (goal.at-advance-place-requires c).After-advance-d) (omega arith) in
    (d.phase, omega (arith, d.position))

pub loop-quad-preserved : goal.loop-quad-preserved
loop-quad-preserved c =
    let x = c.args in
    let r = rate_with x.self.now.setting 0 in
    let eb = c.advance-b.ensures in
    let ec = c.advance-c.ensures in
    let ed = c.advance-d.ensures in
    let four = c.copy_from_slice.ensures.after ∙ c.output_four-y.ensures in
    let on : 4 * c.loop-quad.quad + 4 ≡ 4 * (c.loop-quad.quad + 1) = omega arith in
    recount x.self.now.setting x.self.now.coefs.now x.self.now.mem.now (place_of x.start) x.count _ on
    (side_by_side x.self.now.setting x.self.now.coefs.now x.self.now.mem.now (place_of x.start) x.count _ (4 * c.loop-quad.quad) 4 c.copy_from_slice.new.self c.loop-quad.invariant (omega arith) c.requires.1
    (sym (ap length four)) (four_values x.self.now.setting x.self.now.coefs.now x.self.now.mem.now 4 _ _ _ _ (omega arith) four eb ec (λ h. ed))
    (c.advance-place.ensures ∙ ap (next r) (ed ∙ ap (next r) (ec ∙ ap (next r) eb))))

pub returns : goal.returns
returns c =
    let x = c.args in
    let all : 4 * c.loop-quad.quad ≡ x.count / 4 * 4 = omega (arith, c.loop-quad.auto.quad-end) in
    recount x.self.now.setting x.self.now.coefs.now x.self.now.mem.now (place_of x.start) x.count _ all c.loop-quad.invariant

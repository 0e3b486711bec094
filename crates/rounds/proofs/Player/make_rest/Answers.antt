-- `rounds::Player::make_rest` meets its contract. The invariant: what is made goes on what was, for any start of the run. Assumes nothing.
use mathlib.Core.Path.{◌≡◌, sym, ap, ◌∙◌}
use Prim.Native.Nat.{ℕ, ◌+◌, ◌-◌}
use native.Mathlib.Omega.{arith}
use Rattle.timeline.specs.Numbers.{ahead}
use Rattle.rates.specs.Rated.{rate_with}
use Rattle.rounds.specs.Rounds.{place_of}
use Rattle.rounds.proofs.Running.{here, one_on, recount, goes_on}
use Rattle.rounds.proofs.Player.make_rest.Goals as goal

pub loop-i-init : goal.loop-i-init
loop-i-init c =
    let x = c.args in
    let none : x.before.written - x.before.written ≡ 0 = omega arith in
    (ap (λ (k : ℕ). ahead (rate_with x.self.now.setting 0) k (place_of x.before.place)) (sym none), λ p was f. f)

pub output_at-requires : goal.output_at-requires
output_at-requires c =
    let f = c.requires.0 in
    let a = here (c.loop-i.i - c.args.before.written) f c.loop-i.invariant.0 (omega (arith, c.loop-i.auto.i)) in
    (a.phase, a.window)

pub advance-place-requires : goal.advance-place-requires
advance-place-requires c =
    let f = c.requires.0 in
    let a = here (c.loop-i.i - c.args.before.written) f c.loop-i.invariant.0 (omega (arith, c.loop-i.auto.i)) in
    (a.phase, omega (arith, a.position))

pub loop-i-preserved : goal.loop-i-preserved
loop-i-preserved c =
    let x = c.args in
    let r = rate_with x.self.now.setting 0 in
    let v = c.loop-i.invariant in
    let done : ℕ = c.loop-i.i - x.before.written in
    let on : done + 1 ≡ c.loop-i.i + 1 - x.before.written = omega (arith, c.loop-i.auto.i) in
    let place = one_on r done (place_of x.before.place) v.0 c.advance-place.ensures in (
      place ∙ ap (λ (k : ℕ). ahead r k (place_of x.before.place)) on,
      λ p was f.
          let so_far = v.1 p was f in
          goes_on x.self.now.setting x.self.now.coefs.now x.self.now.mem.now p x.count was c.loop-i.i so_far (omega arith)
          (omega (arith, c.loop-i.auto.out, so_far.same, c.requires.2)) c.output_at.ensures c.advance-place.ensures,
    )

pub returns : goal.returns
returns c p was f =
    let x = c.args in
    let all : c.loop-i.i ≡ x.count = omega (arith, c.loop-i.auto.i-end c.requires.1) in
    recount x.self.now.setting x.self.now.coefs.now x.self.now.mem.now p x.count was all (c.loop-i.invariant.1 p was f)

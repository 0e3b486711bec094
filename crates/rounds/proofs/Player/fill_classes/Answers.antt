-- `rounds::Player::fill_classes` meets its contract. The invariant: the classes below `from` are made, and the next stands at the place.
-- Assumes nothing.
use mathlib.Core.Path.{◌≡◌, refl, sym}
use mathlib.Core.Logic.{◌⊎◌, inl, inr}
use Prim.Native.Nat.{ℕ, ◌+◌, ◌≤◌, ◌<◌, min}
use native.Mathlib.Omega.{arith}
use lib.ListN.{length, length-drop}
use Rattle.kernel.proofs.Parts.{rest, reaches_at}
use Rattle.timeline.proofs.Places.{below_or_not}
use Rattle.rates.specs.Rated.{rate_with}
use Rattle.rounds.specs.Rounds.{place_of}
use Rattle.rounds.proofs.Phases.{reaches}
use Rattle.rounds.proofs.Running.{here, one_on}
use Rattle.rounds.proofs.Classes.{starts, goes_on, ends, after_first, class_fits, class_value}
use Rattle.rounds.proofs.Player.fill_classes.Goals as goal
use Rattle.rounds.proofs.Player.fill_classes.Goals.{Start}

-- the first window lies within the history
first : (c : Start) → c.args.start.position + c.args.self.now.setting.filt_len ≤ length c.args.self.now.mem.now
first c = (c.requires.run_fits.0.each 0 (omega (arith, c.requires.run_fits.2.some))).window

pub loop-from-init : goal.loop-from-init
loop-from-init c =
    let x = c.args in
    (refl, starts x.self.now.setting x.self.now.coefs.now x.self.now.mem.now (place_of x.start) x.weave.count _ x.weave.den)

pub phase_at-requires : goal.phase_at-requires
phase_at-requires c =
    let f = c.requires.run_fits.0 in
    (here c.loop-from.from f c.loop-from.invariant.0 (omega (arith, c.loop-from-test.true, c.min-from-end.ensures))).phase

pub offset_bounds-self-at : goal.offset_bounds-self-at
offset_bounds-self-at c = omega (arith, first (goal.at-offset_bounds-self-at c).Start)

pub slice_bounds-fill_class-count : goal.slice_bounds-fill_class-count
slice_bounds-fill_class-count c = omega (arith, first (goal.at-slice_bounds-fill_class-count c).Start)

pub slice_bounds-fill_class-start : goal.slice_bounds-fill_class-start
slice_bounds-fill_class-start c = omega (arith, first (goal.at-slice_bounds-fill_class-start c).Start)

pub overflow_sub-place : goal.overflow_sub-place
overflow_sub-place c =
    after_first c.args.self.now.setting (place_of c.args.start) c.args.weave c.loop-from.from c.args.self.now.playable c.requires.run_fits.0 c.requires.run_fits.2 (omega (arith, c.loop-from-test.true, c.min-from-end.ensures)) c.loop-from.invariant.0

pub fill_class-requires : goal.fill_class-requires
fill_class-requires c =
    let x = c.args in
    let f = c.requires.run_fits.0 in
    let v = c.loop-from.invariant in
    let low : c.loop-from.from < x.weave.count = omega (arith, c.loop-from-test.true, c.min-from-end.ensures) in
    let room : x.weave.count ≤ length c.loop-from.out = omega (arith, v.1.same, c.requires.run_fits.1) in
    let fits = class_fits x.self.now.setting (place_of x.start) x.weave c.loop-from.from x.self.now.playable f c.requires.run_fits.2 low v.0
    (omega (arith, c.loop-from-test.true, c.min-from-end.ensures)) c.requires.run_fits.3 room in
    let within = reaches_at _ _ _ (sym c.phase_at.ensures) (reaches c.args.self.now.playable (here c.loop-from.from f v.0 low).phase c.args.self.now.table) in
    record { woven = rw rest c.requires.woven; class_fits = rw (rest, length-drop) fits; reaches = rw c.requires.run_fits.2.n within }

pub advance-place-requires : goal.advance-place-requires
advance-place-requires c =
    let f = c.requires.run_fits.0 in
    let a = here c.loop-from.from f c.loop-from.invariant.0 (omega (arith, c.loop-from-test.true, c.min-from-end.ensures)) in
    (a.phase, omega (arith, a.position))

pub loop-from-preserved : goal.loop-from-preserved
loop-from-preserved c =
    let x = c.args in
    let f = c.requires.run_fits.0 in
    let g = c.requires.run_fits.2 in
    let v = c.loop-from.invariant in
    let low : c.loop-from.from < x.weave.count = omega (arith, c.loop-from-test.true, c.min-from-end.ensures) in
    let class : c.loop-from.from < x.weave.den = omega (arith, c.loop-from-test.true, c.min-from-end.ensures) in
    let values = class_value x.self.now.setting (place_of x.start) x.weave c.loop-from.from x.self.now.playable f g low v.0 x.self.now.coefs.now x.self.now.mem.now c.phase_at.ensures in (
      one_on (rate_with x.self.now.setting 0) c.loop-from.from (place_of x.start) v.0 c.advance-place.ensures,
      goes_on x.self.now.setting x.self.now.coefs.now x.self.now.mem.now (place_of x.start) x.weave.count _ x.weave.den c.loop-from.from v.1
          class (simp rest at c.fill_class.ensures) (λ m l. values m),
    )

-- the last class is made, or the last output
all_made : {den count from end : ℕ} → end ≡ min den count → end ≤ from → (den ≤ from) ⊎ (count ≤ from)
all_made {den} {count} e h = elim (below_or_not den count) [ inl l ↦ inl (omega (arith, e)) | inr l ↦ inr (omega (arith, e)) ]

pub returns : goal.returns
returns c =
    let x = c.args in
    ends x.self.now.setting x.self.now.coefs.now x.self.now.mem.now (place_of x.start) x.weave.count _ x.weave.den c.loop-from.from c.loop-from.invariant.1
    (omega (arith, c.requires.run_fits.2.den, c.args.self.now.playable.terms.den_from))
    (all_made c.min-from-end.ensures (omega (arith, c.loop-from-test.false))) c.requires.run_fits.1

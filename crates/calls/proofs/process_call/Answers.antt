-- `calls::process_call` plays one call: the magic round, and with no magic samples left the rounds over the input. Assumes nothing.
use Prim.Native.Nat.{◌-◌, ◌≤◌}
use native.Mathlib.Omega.{arith}
use lib.ListN.{length, take, drop, length-take}
use Rattle.kernel.proofs.Parts.{rest}
use Rattle.rates.specs.Rated.{rate_with}
use Rattle.rounds.specs.Output.{weigh_of}
use Rattle.rounds.specs.Rounds.{place_of}
use Rattle.calls.proofs.Asks.{fit, slow, round_fits, fits_at}
use Rattle.calls.proofs.Onward.{put_back}
use Rattle.calls.proofs.Magic.{rounds_written_fit, written_fits, phase_after_lem, position_after_lem, left_wrote, spent_wrote}
use Rattle.calls.proofs.process_call.Goals as goal
use Rattle.calls.proofs.process_call.Goals.{After-process_magic-first}

-- what the magic round wrote fits the output
within : (c : After-process_magic-first) → c.process_magic-first.result.turn.written.0 ≤ length c.args.out.now
within c =
    let a = c.args in
    written_fits (weigh_of a.setting a.coefs.now) (rate_with a.setting a.alloc) a.magic
    (length a.out.now) (place_of a.place) a.mem.now
    (c.process_magic-first.ensures a.alloc)

pub process_magic-first-requires : goal.process_magic-first-requires
process_magic-first-requires c =
    let f = c.requires in round_fits f c.args.magic f.magic

pub returns-then-first-gt0 : goal.returns-then-first-gt0
returns-then-first-gt0 c =
    let a = c.args in
    left_wrote (weigh_of a.setting a.coefs.now) (rate_with a.setting a.alloc) a.magic
    (length a.out.now) (place_of a.place) a.mem.now
    (c.process_magic-first.ensures a.alloc) a.input.now c.if-first-gt0.true

pub offset_bounds-out-done : goal.offset_bounds-out-done
offset_bounds-out-done c =
    omega (arith, within (goal.at-offset_bounds-out-done c).After-process_magic-first, c.well_formed)

pub slice_bounds-process_chunks-count : goal.slice_bounds-process_chunks-count
slice_bounds-process_chunks-count c =
    omega (arith, within (goal.at-slice_bounds-process_chunks-count c).After-process_magic-first, c.process_magic-first.auto)

pub slice_bounds-process_chunks-start : goal.slice_bounds-process_chunks-start
slice_bounds-process_chunks-start c =
    omega (arith, within (goal.at-slice_bounds-process_chunks-start c).After-process_magic-first, c.process_magic-first.auto)

pub process_chunks-turn-requires : goal.process_chunks-turn-requires
process_chunks-turn-requires c =
    let a = c.args in
    let f = c.requires in
    let w = c.process_magic-first.ensures a.alloc in
    let weigh = weigh_of a.setting a.coefs.now in
    let r = rate_with a.setting a.alloc in
    fits_at f
    (phase_after_lem weigh r a.magic (length a.out.now) (place_of a.place) a.mem.now w (fit f).den f.phase)
    (position_after_lem weigh r a.magic (length a.out.now) (place_of a.place) a.mem.now w (fit f).den f.phase (slow f) f.position)
    c.process_magic-first.auto.mem

pub overflow_add-turn : goal.overflow_add-turn
overflow_add-turn c =
    let a = c.args in
    let out = c.process_magic-first.new.out in
    let done = c.process_magic-first.result.turn.written.0 in
    let fits = rounds_written_fit (weigh_of a.setting a.coefs.now) (rate_with a.setting a.alloc) a.input.now (length (take (length out - done) (drop done out)))
    (place_of c.process_magic-first.result.turn.place) c.process_magic-first.new.mem c.process_chunks-turn.ensures in
    omega (arith, fits, length-take (length out - done) (drop done out), c.process_magic-first.auto.out, within (goal.at-overflow_add-turn c).After-process_magic-first, c.well_formed)

pub returns : goal.returns
returns c =
    let a = c.args in
    let out = c.process_magic-first.new.out in
    let done = c.process_magic-first.result.turn.written.0 in
    rw (put_back done out c.process_chunks-turn.new.out)
    (spent_wrote (weigh_of a.setting a.coefs.now) (rate_with a.setting a.alloc) a.magic
    (length a.out.now) (place_of a.place) a.mem.now
    (c.process_magic-first.ensures a.alloc) a.input.now (omega (arith, c.if-first-gt0.false)) c.process_magic-first.auto.out
    (rest out done) c.process_chunks-turn.ensures)

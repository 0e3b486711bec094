-- `calls::Call::process_chunks` plays the rounds over the input: the invariant is `Playing`, and what is left of the input and of the room falls.
-- Assumes nothing.
use mathlib.Core.Logic.{inl, inr}
use native.Mathlib.Omega.{arith}
use borrow.Author.Tests.{ltb-false}
use Rattle.kernel.proofs.Parts.{rest}
use Rattle.rates.specs.Rated.{rate_with}
use Rattle.rounds.specs.Output.{weigh_of}
use Rattle.rounds.specs.Rounds.{place_of, turn_of}
use Rattle.calls.proofs.Asks.{fit, slow, fits_at}
use Rattle.calls.proofs.Onward.{put_back}
use Rattle.calls.proofs.Playing.{Turned, begins, ends, goes_on}
use Rattle.calls.proofs.Call.process_chunks.Goals as goal
use Rattle.calls.proofs.Call.process_chunks.Goals.{After-process_chunk-turn}

-- what the call's round did, written into the parts that were lent to it
turned : (c : After-process_chunk-turn) →
    let a = c.args in
    let v = c.loop-read in
    Turned (weigh_of a.self.now.setting a.self.now.coefs.now) (rate_with a.self.now.setting a.self.now.alloc) a.input.now a.mem.now a.out.now (place_of a.place)
    v.read v.done (turn_of c.process_chunk-turn.result) c.process_chunk-turn.new.mem v.out c.process_chunk-turn.new.out
turned c =
    let a = c.args in
    let f = c.requires in
    let v = c.loop-read in
    goes_on (weigh_of a.self.now.setting a.self.now.coefs.now) (rate_with a.self.now.setting a.self.now.alloc) a.input.now a.mem.now a.out.now (place_of a.place)
    (fit f) (slow f) f.lent v.invariant (omega (arith, c.loop-read-test.true))
    (omega (arith, c.if-done-out.true, v.invariant.long))
    (rest a.input.now v.read) (rest v.out v.done) c.process_chunk-turn.ensures

pub loop-read-init : goal.loop-read-init
loop-read-init c = let f = c.requires in begins _ _ _ _ _ _ f.phase f.position

pub offset_bounds-out-done : goal.offset_bounds-out-done
offset_bounds-out-done c = let v = c.loop-read.invariant in omega (arith, v.fits, v.long)

pub slice_bounds-process_chunk-count-in-loop-read : goal.slice_bounds-process_chunk-count-in-loop-read
slice_bounds-process_chunk-count-in-loop-read c = let v = c.loop-read.invariant in omega (arith, v.fits, v.long)

pub process_chunk-turn-requires : goal.process_chunk-turn-requires
process_chunk-turn-requires c =
    fits_at c.requires c.loop-read.invariant.phase c.loop-read.invariant.position c.loop-read.invariant.sized

pub overflow_add-read : goal.overflow_add-read
overflow_add-read c = omega (arith, (turned (goal.at-overflow_add-read c).After-process_chunk-turn).reads, c.well_formed)

pub overflow_add-done : goal.overflow_add-done
overflow_add-done c = omega (arith, (turned (goal.at-overflow_add-done c).After-process_chunk-turn).writes, c.well_formed)

pub loop-read-smaller : goal.loop-read-smaller
loop-read-smaller c = (turned (goal.at-loop-read-smaller c).After-process_chunk-turn).less

pub loop-read-preserved : goal.loop-read-preserved
loop-read-preserved c =
    rw (put_back c.loop-read.done c.loop-read.out c.process_chunk-turn.new.out) (turned (goal.at-loop-read-preserved c).After-process_chunk-turn).again

pub shape_of-mem-else-done-out : goal.shape_of-mem-else-done-out
shape_of-mem-else-done-out c = c.loop-read.invariant.sized

pub shape_of-out-else-done-out : goal.shape_of-out-else-done-out
shape_of-out-else-done-out c = c.loop-read.invariant.long

pub returns-else-done-out : goal.returns-else-done-out
returns-else-done-out c =
    let v = c.loop-read.invariant in ends _ _ _ _ _ _ v (inr (omega (arith, ltb-false, v.long)))

pub shape_of-mem-after-loop-read : goal.shape_of-mem-after-loop-read
shape_of-mem-after-loop-read c = c.loop-read.invariant.sized

pub shape_of-out-after-loop-read : goal.shape_of-out-after-loop-read
shape_of-out-after-loop-read c = c.loop-read.invariant.long

pub returns-after-loop-read : goal.returns-after-loop-read
returns-after-loop-read c = ends _ _ _ _ _ _ c.loop-read.invariant (inl (omega arith))

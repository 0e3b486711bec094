-- `abreast::Overlap::sums_within` meets its contract. Assumes nothing.
use Rattle.std.proofs.Common.{List, [], ap, slice_index_or, add-mul, one-mul, arith}
use lib.Ieee.{Float}
use Rattle.abreast.proofs.Four.{four_is}
use Rattle.abreast.proofs.Turns.{shared_fits, output_turn}
use Rattle.abreast.proofs.Overlap.sums_within.Goals as goal

-- the coefficients that the sample meets for each output lie within the table
pub spread-requires : goal.spread-requires
spread-requires c =
    let s = c.args.self.now in
    shared_fits s 0 c.loop-j.j c.taps_on-a.ensures c.loop-j.invariant.0 s.taps.a (omega (arith, s.windows.within)) (omega (arith, s.windows.within)) c.loop-j-test.true

pub spread-requires-in-loop-j : goal.spread-requires-in-loop-j
spread-requires-in-loop-j c =
    let s = c.args.self.now in
    shared_fits s 1 c.loop-j.j c.taps_on-b.ensures c.loop-j.invariant.0 s.taps.b (omega (arith, s.windows.within)) (omega (arith, s.windows.within)) c.loop-j-test.true

pub spread-requires-in-loop-j-2 : goal.spread-requires-in-loop-j-2
spread-requires-in-loop-j-2 c =
    let s = c.args.self.now in
    shared_fits s 2 c.loop-j.j c.taps_on-c.ensures c.loop-j.invariant.0 s.taps.c (omega (arith, s.windows.within)) (omega (arith, s.windows.within)) c.loop-j-test.true

pub spread-requires-in-loop-j-3 : goal.spread-requires-in-loop-j-3
spread-requires-in-loop-j-3 c =
    let s = c.args.self.now in
    shared_fits s 3 c.loop-j.j c.taps_on-d.ensures c.loop-j.invariant.0 s.taps.d (omega (arith, s.windows.within)) (omega (arith, s.windows.within)) c.loop-j-test.true

pub loop-j-preserved : goal.loop-j-preserved
loop-j-preserved c =
    let s = c.args.self.now in
    let j = c.loop-j.j in
    let on = c.loop-j.invariant.0 in
    let e = c.loop-j.invariant.1 in
    let sums =
    four_is
    (output_turn s 0 j c.taps_on-a.ensures on s.taps.a.2 (omega (arith, s.windows.within)) (ap (λ (l : List (List Float)). slice_index_or l 0 []) e) c.spread.ensures)
    (output_turn s 1 j c.taps_on-b.ensures on s.taps.b.2 (omega (arith, s.windows.within)) (ap (λ (l : List (List Float)). slice_index_or l 1 []) e) c.spread-in-loop-j.ensures)
    (output_turn s 2 j c.taps_on-c.ensures on s.taps.c.2 (omega (arith, s.windows.within)) (ap (λ (l : List (List Float)). slice_index_or l 2 []) e) c.spread-in-loop-j-2.ensures)
    (output_turn s 3 j c.taps_on-d.ensures on s.taps.d.2 (omega (arith, s.windows.within)) (ap (λ (l : List (List Float)). slice_index_or l 3 []) e) c.spread-in-loop-j-3.ensures)
    in
    (omega (arith, on, add-mul j 1 s.oversample, one-mul s.oversample), sums)

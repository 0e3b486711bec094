-- `abreast::Windows::rows_by_fours` meets its contract. Assumes nothing.
use Rattle.std.proofs.Common.{◌≡◌, ◌*◌, refl, arith}
use lib.Ieee.{of_bits}
use Rattle.kernel.specs.Sums.{sum_to}
use Rattle.abreast.proofs.Turns.{rows_four_turns}
use Rattle.abreast.proofs.Windows.rows_by_fours.Goals as goal

pub loop-turn-init : goal.loop-turn-init
unfolding sum_to of_bits
loop-turn-init c = refl

pub loop-turn-preserved : goal.loop-turn-preserved
loop-turn-preserved c =
    rows_four_turns c.args.self.now c.args.row.now (c.loop-turn.turn * 4) (omega arith) c.loop-turn.invariant
    c.four_taps-one.ensures c.four_taps-two.ensures c.four_taps-three.ensures c.four_taps-four.ensures

pub returns : goal.returns
returns c = let e : c.loop-turn.turn ≡ c.args.quarters = omega arith in rw (← e) c.loop-turn.invariant

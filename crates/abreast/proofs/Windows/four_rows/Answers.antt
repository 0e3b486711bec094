-- `abreast::Windows::four_rows` meets its contract. Assumes nothing.
use Rattle.std.proofs.Common.{◌≡◌, arith}
use Rattle.abreast.proofs.Turns.{rows_turn}
use Rattle.abreast.proofs.Windows.four_rows.Goals as goal

pub loop-j-preserved : goal.loop-j-preserved
loop-j-preserved c = rows_turn c.args.self.now c.args.row.now c.loop-j.j c.loop-j.invariant c.four_taps-next.ensures

pub returns : goal.returns
returns c = let e : c.loop-j.j ≡ c.args.self.now.n = omega arith in rw (← e) c.loop-j.invariant

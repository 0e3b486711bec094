-- `lanes::Steps::fill` meets its contract. The invariant: the outputs so far are made. Assumes nothing.
use Prim.Native.Nat.{◌+◌, ◌*◌}
use lib.ListN.{drop}
use Rattle.kernel.specs.Step.{step_of}
use Rattle.lanes.specs.Inner.{Strewn}
use Rattle.lanes.proofs.Stepping.{Stepping}
use Rattle.lanes.proofs.Steps.fill.Given as goal

abbrev pub invariant-loop-m : goal.invariant-loop-m
invariant-loop-m l = Stepping l.strand.from l.den l.count l.m-iterator
    × Strewn l.initial.out l.out l.strand.from l.den l.count l.m-iterator.count (λ m. step_of l.self.phase l.self.weave.n l.self.oversample l.self.coefs.now (drop ((l.strand.column + m) * l.self.weave.num + l.strand.row) l.self.window.now))

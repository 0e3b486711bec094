-- `stages::close` meets its contract: the samples lent are zeros as far as the call reads them (`proofs/Laws.antt`). Assumes nothing.
use native.Mathlib.Omega.{arith}
use Rattle.edges.proofs.Laws.{zeros_to}
use Rattle.stages.specs.Promises.{bare_stage}
use Rattle.stages.proofs.Laws.{zeros_fit, closes}
use Rattle.stages.proofs.close.Goals as goal

pub fill_zero-requires : goal.fill_zero-requires
fill_zero-requires c = omega (arith, zeros_to c.args.kept.came c.args.filt_len)

pub slice_bounds-pull-end : goal.slice_bounds-pull-end
slice_bounds-pull-end c = zeros_fit c.args.samples.now c.fill_zero.new.mem c.closing_zeros-count.result c.fill_zero.ensures (omega (arith, zeros_to c.args.kept.came c.args.filt_len))

pub returns : goal.returns
returns c =
    let a = c.args in
    let filled = c.fill_zero in
    closes a.samples.now filled.new.mem c.closing_zeros-count.result filled.ensures a.kept.came a.filt_len {g = bare_stage a.kept.state a.mem.now a.coefs.now a.out.now} c.closing_zeros-count.ensures c.pull.ensures

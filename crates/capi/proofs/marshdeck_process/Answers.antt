-- `marshdeck_process` counts no more than a call takes. Assumes nothing.
use mathlib.Core.Path.{◌≡◌}
use Rattle.std.proofs.Common.{rules}
use Rattle.quality.specs.House.{house}
use Rattle.resampler.specs.Answers.{told}
use Rattle.resampler.specs.Entries.{process_told}
use Rattle.capi.proofs.Counts.{process_fits}
use Rattle.capi.proofs.marshdeck_process.Goals as goal

pub called-requires-clause-fits : goal.called-requires-clause-fits
called-requires-clause-fits c = λ s after a h.
    let tells : told a ≡ process_told house s c.args.mem.now c.args.coefs.now c.args.input.now c.args.out.now = search rules in
    rw tells (process_fits s c.args.mem.now c.args.coefs.now c.args.input.now c.args.out.now)

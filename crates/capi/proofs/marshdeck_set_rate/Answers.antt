-- `marshdeck_set_rate` counts nothing. Assumes nothing.
use mathlib.Core.Path.{◌≡◌}
use Rattle.std.proofs.Common.{rules}
use Rattle.quality.specs.House.{house}
use Rattle.resampler.specs.Answers.{told}
use Rattle.resampler.specs.Entries.{rate_told}
use Rattle.capi.proofs.Counts.{rate_within}
use Rattle.capi.proofs.marshdeck_set_rate.Goals as goal

pub called-requires-clause-fits : goal.called-requires-clause-fits
called-requires-clause-fits c = λ s after a h.
    let tells : told a ≡ rate_told house s c.args.source_hz c.args.mem.now c.args.coefs.now = search rules in
    rw tells (rate_within s c.args.source_hz c.args.mem.now c.args.coefs.now)

-- `marshdeck_reset` counts nothing. Assumes nothing.
use mathlib.Core.Path.{◌≡◌}
use Rattle.std.proofs.Common.{rules}
use Rattle.quality.specs.House.{house}
use Rattle.resampler.specs.Answers.{told}
use Rattle.resampler.specs.Entries.{reset_told}
use Rattle.capi.proofs.Counts.{reset_within}
use Rattle.capi.proofs.marshdeck_reset.Goals as goal

pub called-requires-clause-fits : goal.called-requires-clause-fits
called-requires-clause-fits c = λ s after a h.
    let tells : told a ≡ reset_told house s c.args.mem.now = search rules in
    rw tells (reset_within s c.args.mem.now)

-- `marshdeck_skip` counts nothing. Assumes nothing.
use mathlib.Core.Path.{◌≡◌}
use Rattle.std.proofs.Common.{rules}
use Rattle.quality.specs.House.{house}
use Rattle.resampler.specs.Answers.{told}
use Rattle.resampler.specs.Entries.{skip_told}
use Rattle.capi.proofs.Counts.{skip_within}
use Rattle.capi.proofs.marshdeck_skip.Goals as goal

pub called-requires-clause-fits : goal.called-requires-clause-fits
called-requires-clause-fits c = λ s after a h.
    let tells : told a ≡ skip_told house s = search rules in
    rw tells (skip_within s)

-- `marshdeck_needed` meets its contract. Assumes nothing.
use mathlib.Core.Path.{sym}
use native.Mathlib.Omega.{arith}
use Rattle.sizes.specs.Sizes.{InLimits}
use Rattle.sizes.proofs.Tests.{test_passed}
use Rattle.quality.specs.House.{house}
use Rattle.quality.proofs.House.{house_sane}
use Rattle.rates.proofs.Limits.{limits}
use Rattle.rates.proofs.House.{house_length}
use Rattle.capi.specs.Promises.{needed_sizes}
use Rattle.capi.proofs.marshdeck_needed.Goals as goal
use Rattle.capi.proofs.marshdeck_needed.Goals.{then-not-in_limits-via-then-not-in_limits, then-not-in_limits-via-else-not-in_limits+then-not-in_limits-2}

pub returns-then-not-in_limits : goal.returns-then-not-in_limits
unfolding needed_sizes
returns-then-not-in_limits c =
    elim c.then-not-in_limits.branch [
      | then-not-in_limits-via-then-not-in_limits w ↦ rw (← c.in_limits.ensures, w.if-not-in_limits.true) c.no_sizes.ensures
      | then-not-in_limits-via-else-not-in_limits+then-not-in_limits-2 w ↦ rw (← c.in_limits.ensures, w.if-not-in_limits.false, ← w.in_limits-else-not-in_limits.ensures, w.if-not-in_limits-2.true) c.no_sizes.ensures
    ]

pub new-setting-requires : goal.new-setting-requires
new-setting-requires c = (rw c.house.ensures house_sane, test_passed _ (sym c.if-not-in_limits.ensures), test_passed _ (sym c.if-not-in_limits-2.ensures))

pub history_needed-requires : goal.history_needed-requires
history_needed-requires c =
    let source_in : InLimits c.args.source_hz = test_passed _ (sym c.if-not-in_limits.ensures) in
    let target_in : InLimits c.args.target_hz = test_passed _ (sym c.if-not-in_limits-2.ensures) in
    let l = limits house house_sane _ _ source_in target_in in
    rw (c.new-setting.ensures, c.house.ensures) (omega (arith, (house_length _ _ source_in target_in).0), l.history_to)

pub returns : goal.returns
unfolding needed_sizes
returns c =
    rw (← c.if-not-in_limits.ensures, ← c.if-not-in_limits-2.ensures, c.history_needed.ensures, c.new-setting.ensures, c.house.ensures)

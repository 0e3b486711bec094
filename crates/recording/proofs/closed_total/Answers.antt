-- `recording::closed_total` meets its contract. Assumes nothing.
use mathlib.Core.Path.{sym}
use native.Mathlib.Omega.{arith}
use borrow.Author.Tests.{lt-ltb, le-ltb}
use Rattle.sizes.proofs.Tests.{test_passed}
use Rattle.recording.specs.Totals.{max_samples, closed_total_told}
use Rattle.recording.proofs.closed_total.Goals as goal
use Rattle.recording.proofs.closed_total.Goals.{then-not-in_limits-via-then-not-in_limits, then-not-in_limits-via-else-not-in_limits+then-not-in_limits-2}

pub returns-then-not-in_limits : goal.returns-then-not-in_limits
unfolding closed_total_told
returns-then-not-in_limits c =
    elim c.then-not-in_limits.branch [
      | then-not-in_limits-via-then-not-in_limits w ↦ rw (← c.in_limits.ensures, w.if-not-in_limits.true)
      | then-not-in_limits-via-else-not-in_limits+then-not-in_limits-2 w ↦ rw (← c.in_limits.ensures, w.if-not-in_limits.false, ← w.in_limits-else-not-in_limits.ensures, w.if-not-in_limits-2.true)
    ]

pub returns-then-samples-gt-MAX_SAMPLES : goal.returns-then-samples-gt-MAX_SAMPLES
unfolding closed_total_told
returns-then-samples-gt-MAX_SAMPLES c =
    rw (← c.if-not-in_limits.ensures, ← c.if-not-in_limits-2.ensures, lt-ltb max_samples c.args.samples.0 c.if-samples-gt-MAX_SAMPLES.true)

pub outputs_of-requires : goal.outputs_of-requires
outputs_of-requires c =
    (test_passed _ (sym c.if-not-in_limits.ensures), test_passed _ (sym c.if-not-in_limits-2.ensures), omega arith)

pub returns : goal.returns
unfolding closed_total_told
returns c =
    rw (← c.if-not-in_limits.ensures, ← c.if-not-in_limits-2.ensures, le-ltb max_samples _ c.if-samples-gt-MAX_SAMPLES.false, c.outputs_of.ensures)

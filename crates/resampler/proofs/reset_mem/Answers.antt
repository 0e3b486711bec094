-- `resampler::reset_mem` meets its contract: each way out is a verdict's. Assumes nothing.
use mathlib.Core.Path.{refl, sym, ◌∙◌}
use native.Mathlib.Omega.{arith}
use lib.ListN.{length}
use Rattle.quality.specs.House.{house}
use Rattle.quality.specs.declared.QualityMapping.{QualityMapping}
use Rattle.quality.proofs.House.{house_sane}
use Rattle.judge.specs.Verdicts.{reset_verdict}
use Rattle.judge.proofs.Judged.{reset_accepts}
use Rattle.resampler.proofs.Outcomes.{handed_back, passed, accepts, refuses, reset_refused, reset_done}
use Rattle.resampler.proofs.reset_mem.Goals as goal

pub judge_reset-requires : goal.judge_reset-requires
judge_reset-requires c = rw c.house-row.ensures house_sane

pub fill_zero-requires : goal.fill_zero-requires
fill_zero-requires c =
    let a = c.args in
    let accepted = sym c.judge_reset.ensures ∙ passed _ _ _ c.judged.ensures c.in_ok-judged.was in
    omega (arith, (reset_accepts _ a.state (length a.mem.now) accepted).history)

pub returns-in_err-judged : goal.returns-in_err-judged
returns-in_err-judged c =
    let a = c.args in
    rw (handed_back c.from_residual.result c.from_residual.ensures.1)
    (reset_refused house a.state a.mem.now _
    (refuses (λ (row : QualityMapping). reset_verdict row a.state (length a.mem.now)) c.house-row.ensures c.judge_reset.ensures a.state c.judged.ensures c.in_err-judged.was))

pub returns : goal.returns
returns c =
    let a = c.args in
    reset_done house a.state a.mem.now c.uncounted.ensures
    (accepts (λ (row : QualityMapping). reset_verdict row a.state (length a.mem.now)) c.house-row.ensures c.judge_reset.ensures a.state c.judged.ensures c.in_ok-judged.was)
    refl c.fill_zero.ensures

-- `resampler::source_hz` meets its contract: each way out is a verdict's. Assumes nothing.
use mathlib.Core.Path.{sym, ◌∙◌}
use lib.ListN.{length}
use Rattle.quality.specs.House.{house}
use Rattle.quality.specs.declared.QualityMapping.{QualityMapping}
use Rattle.quality.proofs.House.{house_sane}
use Rattle.judge.specs.Verdicts.{rate_verdict}
use Rattle.resampler.proofs.Outcomes.{handed_back, passed, accepts, refuses, rate_refused, rate_same, rate_changed}
use Rattle.resampler.proofs.source_hz.Goals as goal

pub judge_rate-verdict-requires : goal.judge_rate-verdict-requires
judge_rate-verdict-requires c = rw c.house-row.ensures house_sane

pub returns-in_err-judged : goal.returns-in_err-judged
returns-in_err-judged c =
    let a = c.args in
    rw (handed_back c.from_residual.result c.from_residual.ensures.1)
    (rate_refused house a.state a.source a.mem.now a.coefs.now _
    (refuses (λ (row : QualityMapping). rate_verdict row a.state a.source (length a.mem.now) (length a.coefs.now)) c.house-row.ensures c.judge_rate-verdict.ensures a.state c.judged.ensures c.in_err-judged.was))

pub returns-then-state-source : goal.returns-then-state-source
returns-then-state-source c =
    let a = c.args in
    rate_same house a.state a.source a.mem.now a.coefs.now c.uncounted.ensures
    (accepts (λ (row : QualityMapping). rate_verdict row a.state a.source (length a.mem.now) (length a.coefs.now)) c.house-row.ensures c.judge_rate-verdict.ensures a.state c.judged.ensures c.in_ok-judged.was) c.if-state-source.true

pub update_filter-updated-requires : goal.update_filter-updated-requires
update_filter-updated-requires c =
    (rw c.house-row.ensures house_sane, sym c.judge_rate-verdict.ensures ∙ passed _ _ _ c.judged.ensures c.in_ok-judged.was, c.if-state-source.false)

pub returns : goal.returns
returns c =
    let a = c.args in
    let update = c.update_filter-updated.ensures in
    rate_changed house a.state a.source a.mem.now a.coefs.now c.uncounted-2.ensures
    (accepts (λ (row : QualityMapping). rate_verdict row a.state a.source (length a.mem.now) (length a.coefs.now)) c.house-row.ensures c.judge_rate-verdict.ensures a.state c.judged.ensures c.in_ok-judged.was) c.if-state-source.false
    (rw (← c.house-row.ensures) update.value) (rw (← c.house-row.ensures) update.mem_after) (rw (← c.house-row.ensures) update.coefs_after)

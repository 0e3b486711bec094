-- `resampler::process_float` meets its contract: each way out is a verdict's. Assumes nothing.
use mathlib.Core.Path.{sym, ◌∙◌}
use lib.ListN.{length}
use Rattle.quality.specs.House.{house}
use Rattle.quality.specs.declared.QualityMapping.{QualityMapping}
use Rattle.quality.proofs.House.{house_sane}
use Rattle.judge.specs.Verdicts.{process_verdict}
use Rattle.resampler.proofs.Outcomes.{handed_back, passed, accepts, refuses, process_refused, process_done}
use Rattle.resampler.proofs.process_float.Goals as goal

pub judge_process-verdict-requires : goal.judge_process-verdict-requires
judge_process-verdict-requires c = rw c.house-row.ensures house_sane

pub process-requires : goal.process-requires
process-requires c =
    (rw c.house-row.ensures house_sane, sym c.judge_process-verdict.ensures ∙ passed _ _ _ c.judged.ensures c.in_ok-judged.was)

pub returns-in_err-judged : goal.returns-in_err-judged
returns-in_err-judged c =
    let a = c.args in
    rw (handed_back c.from_residual.result c.from_residual.ensures.1)
    (process_refused house a.state a.mem.now a.coefs.now a.input.now a.out.now _
    (refuses (λ (row : QualityMapping). process_verdict row a.state (length a.mem.now) (length a.coefs.now) (length a.input.now) (length a.out.now)) c.house-row.ensures c.judge_process-verdict.ensures a.state c.judged.ensures c.in_err-judged.was))

pub returns : goal.returns
returns c =
    let a = c.args in
    process_done house a.state a.mem.now a.coefs.now a.input.now a.out.now
    (accepts (λ (row : QualityMapping). process_verdict row a.state (length a.mem.now) (length a.coefs.now) (length a.input.now) (length a.out.now)) c.house-row.ensures c.judge_process-verdict.ensures a.state c.judged.ensures c.in_ok-judged.was)
    c.process.ensures

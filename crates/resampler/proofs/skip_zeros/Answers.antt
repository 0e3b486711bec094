-- `resampler::skip_zeros` meets its contract: each way out is a verdict's. Assumes nothing.
use Rattle.quality.specs.declared.QualityMapping.{QualityMapping}
use Rattle.quality.proofs.House.{house_sane}
use Rattle.judge.specs.Verdicts.{skip_verdict}
use Rattle.resampler.specs.Entries.{skip_told}
use Rattle.resampler.proofs.Outcomes.{handed_back, accepts, refuses}
use Rattle.resampler.proofs.skip_zeros.Goals as goal

pub judge_skip-requires : goal.judge_skip-requires
judge_skip-requires c = rw c.house-row.ensures house_sane

pub returns-in_err-judged : goal.returns-in_err-judged
unfolding skip_told
returns-in_err-judged c =
    let a = c.args in
    let p = refuses (λ (row : QualityMapping). skip_verdict row a.state) c.house-row.ensures c.judge_skip.ensures a.state c.judged.ensures c.in_err-judged.was in
    rw (handed_back c.from_residual.result c.from_residual.ensures.1, p.0, p.1)

pub returns : goal.returns
unfolding skip_told
returns c =
    let a = c.args in
    rw (
      c.uncounted.ensures,
      c.moved_to.ensures,
      accepts (λ (row : QualityMapping). skip_verdict row a.state) c.house-row.ensures c.judge_skip.ensures a.state c.judged.ensures c.in_ok-judged.was,
    )

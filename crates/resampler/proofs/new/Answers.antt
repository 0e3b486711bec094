-- `resampler::new` meets its contract: each way out is a verdict's. Assumes nothing.
use Rattle.resampler.specs.Entries.{new_told}
use Rattle.resampler.proofs.Outcomes.{handed_back, passed, stopped}
use Rattle.resampler.proofs.new.Goals as goal

pub returns-in_err-judged : goal.returns-in_err-judged
unfolding new_told
returns-in_err-judged c =
    let p = stopped _ _ _ c.judged.ensures c.in_err-judged.was in
    rw (handed_back c.from_residual.result c.from_residual.ensures.1, ← c.judge_new.ensures, p.0, p.1, c.zero-state.ensures)

pub returns : goal.returns
unfolding new_told
returns c = rw (c.uncounted.ensures, ← c.judge_new.ensures, passed _ _ _ c.judged.ensures c.in_ok-judged.was, c.fresh.ensures)

-- `judge::judge_skip` meets its contract: the one test decides. Assumes nothing.
use mathlib.Core.Path.{sym, ◌∙◌}
use Rattle.judge.specs.Verdicts.{skip_verdict}
use Rattle.judge.proofs.judge_skip.Goals as goal

pub returns-then-belongs : goal.returns-then-belongs
unfolding skip_verdict
returns-then-belongs c = rw (sym c.belongs.ensures ∙ c.if-belongs.true)

pub returns : goal.returns
unfolding skip_verdict
returns c = rw (sym c.belongs.ensures ∙ c.if-belongs.false)

-- `judge::judge_new` meets its contract: the one test decides. Assumes nothing.
use mathlib.Core.Path.{sym, ◌∙◌}
use Rattle.judge.specs.Verdicts.{new_verdict}
use Rattle.judge.proofs.judge_new.Goals as goal

pub returns-then-in_limits : goal.returns-then-in_limits
unfolding new_verdict
returns-then-in_limits c = rw (sym c.in_limits.ensures ∙ c.if-in_limits.true)

pub returns : goal.returns
unfolding new_verdict
returns c = rw (sym c.in_limits.ensures ∙ c.if-in_limits.false)

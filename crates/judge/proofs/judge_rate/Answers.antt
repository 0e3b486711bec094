-- `judge::judge_rate` meets its contract: at each return the tests passed so far pick the verdict's case. Assumes nothing.
use mathlib.Core.Path.{sym, ap, ◌∙◌}
use mathlib.Core.Bool.{not}
use borrow.Author.Tests.{not-false}
use Rattle.std.proofs.Common.{arith}
use Rattle.std.proofs.lemmas.Bool.Decides.{nat_tests}
use Rattle.sizes.specs.Sizes.{InLimits}
use Rattle.sizes.proofs.Tests.{test_passed}
use Rattle.rates.proofs.Limits.{limits}
use Rattle.state.proofs.Belonging.{belongs_target}
use Rattle.judge.specs.Verdicts.{rate_verdict}
use Rattle.judge.proofs.judge_rate.Goals as goal
use Rattle.judge.proofs.judge_rate.Goals.{Else-state-source}

-- where the rate is another, both are in limits
both-in : (c : Else-state-source) → InLimits c.args.source × InLimits c.args.state.target
both-in c = (
  test_passed c.args.source (not-false _ (ap not (sym c.in_limits.ensures ∙ c.if-not-in_limits.false))),
  belongs_target c.args.row c.args.state (not-false _ (ap not (sym c.belongs.ensures ∙ c.if-not-belongs.false))),
)

pub new-setting-requires : goal.new-setting-requires
new-setting-requires c = (c.requires, (both-in c).0, (both-in c).1)

pub history_after-requires : goal.history_after-requires
history_after-requires c =
    let a = c.args in
    let both = both-in (goal.at-history_after-requires c).Else-state-source in
    let l = limits a.row c.requires a.source a.state.target both.0 both.1 in
    rw c.new-setting.ensures (omega arith, l.history_to)

pub returns-then-not-belongs : goal.returns-then-not-belongs
unfolding rate_verdict
returns-then-not-belongs c = grind (arith, nat_tests)

pub returns-then-not-in_limits : goal.returns-then-not-in_limits
unfolding rate_verdict
returns-then-not-in_limits c = grind (arith, nat_tests)

pub returns-then-state-source : goal.returns-then-state-source
unfolding rate_verdict
returns-then-state-source c = grind (arith, nat_tests)

pub returns-then-mem_len-history_after : goal.returns-then-mem_len-history_after
unfolding rate_verdict
returns-then-mem_len-history_after c = grind (arith, nat_tests)

pub returns-then-coefs_len-setting : goal.returns-then-coefs_len-setting
unfolding rate_verdict
returns-then-coefs_len-setting c = grind (arith, nat_tests)

pub returns : goal.returns
unfolding rate_verdict
returns c = grind (arith, nat_tests)

-- `judge::judge_process` meets its contract: at each return the tests passed so far pick the verdict's case. Assumes nothing.
use mathlib.Core.Path.{sym, ap, ◌∙◌}
use mathlib.Core.Bool.{not}
use borrow.Author.Tests.{not-false}
use Rattle.std.proofs.Common.{arith}
use Rattle.std.proofs.lemmas.Bool.Decides.{nat_tests}
use Rattle.state.proofs.Belonging.{rated, rated_limits}
use Rattle.judge.specs.Verdicts.{process_verdict}
use Rattle.judge.proofs.judge_process.Goals as goal

-- a state with a rate has a setting in limits
pub setting-requires : goal.setting-requires
setting-requires c =
    let s = c.args.state in
    let belongs = not-false _ (ap not (sym c.belongs.ensures ∙ c.if-not-belongs.false)) in
    let l = rated_limits c.args.row s c.requires (rated c.args.row s belongs c.if-state-eq0.false) in
    (omega arith, l.oversample_to, l.terms.den_to)

pub returns-then-not-belongs : goal.returns-then-not-belongs
unfolding process_verdict
returns-then-not-belongs c = grind (arith, nat_tests)

pub returns-then-state-eq0 : goal.returns-then-state-eq0
unfolding process_verdict
returns-then-state-eq0 c = grind (arith, nat_tests)

pub returns-then-mem_len-state : goal.returns-then-mem_len-state
unfolding process_verdict
returns-then-mem_len-state c = grind (arith, nat_tests)

pub returns-then-coefs_len-setting : goal.returns-then-coefs_len-setting
unfolding process_verdict
returns-then-coefs_len-setting c = grind (arith, nat_tests)

pub returns-then-in_len-eq0 : goal.returns-then-in_len-eq0
unfolding process_verdict
returns-then-in_len-eq0 c = grind (arith, nat_tests)

pub returns-then-in_len-out_len : goal.returns-then-in_len-out_len
unfolding process_verdict
returns-then-in_len-out_len c = grind (arith, nat_tests)

pub returns : goal.returns
unfolding process_verdict
returns c = grind (arith, nat_tests)

-- `judge::judge_reset` meets its contract: each way out has the tests that the definition has. Assumes nothing.
use borrow.Author.Tests.{lt-ltb, le-ltb}
use Rattle.judge.specs.Verdicts.{reset_verdict}
use Rattle.judge.proofs.judge_reset.Goals as goal

pub returns-then-not-belongs : goal.returns-then-not-belongs
unfolding reset_verdict
returns-then-not-belongs c = rw (← c.belongs.ensures, c.if-not-belongs.true)

pub returns-then-mem_len-alloc : goal.returns-then-mem_len-alloc
unfolding reset_verdict
returns-then-mem_len-alloc c = rw (← c.belongs.ensures, c.if-not-belongs.false, lt-ltb _ _ c.if-mem_len-alloc.true)

pub returns : goal.returns
unfolding reset_verdict
returns c = rw (← c.belongs.ensures, c.if-not-belongs.false, le-ltb _ _ c.if-mem_len-alloc.false)

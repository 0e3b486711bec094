-- `rates::terms::Terms::cutoff` meets its contract: one way for each side of num > den. Assumes nothing.
use native.Mathlib.Omega.{arith}
use borrow.Author.Tests.{lt-ltb, le-ltb}
use Rattle.rates.specs.Setting.{cutoff_of}
use Rattle.rates.proofs.terms.Terms.cutoff.Goals as goal

pub returns-then-self : goal.returns-then-self
unfolding cutoff_of
returns-then-self c =
    let a = c.args.self in
    rw (c.small.ensures, c.small-then-self.ensures, lt-ltb a.den a.num (omega arith))

pub returns : goal.returns
unfolding cutoff_of
returns c = rw (le-ltb c.args.self.den c.args.self.num (omega arith))

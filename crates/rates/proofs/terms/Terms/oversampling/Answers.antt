-- `rates::terms::Terms::oversampling` meets its contract: one way for each side of num > den. Assumes nothing.
use mathlib.Core.Path.{sym}
use native.Mathlib.Omega.{arith}
use Rattle.rates.proofs.Numbers.{oversample_down, oversample_up}
use Rattle.rates.proofs.terms.Terms.oversampling.Goals as goal

pub returns-then-self : goal.returns-then-self
returns-then-self c =
    let a = c.args.self in
    omega (arith, c.max.ensures, c.halved.ensures, oversample_down a.row a.num a.den (omega arith))

pub returns : goal.returns
returns c =
    let a = c.args.self in
    sym (oversample_up a.row a.num a.den (omega arith))

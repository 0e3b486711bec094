-- `rates::terms::Terms::filter_length` meets its contract: one way for each side of num > den. Assumes nothing.
use mathlib.Core.Path.{sym, ◌∙◌, ap}
use native.Mathlib.Omega.{arith}
use Rattle.rates.specs.Setting.{up_to8}
use Rattle.rates.proofs.Numbers.{length_down, length_up}
use Rattle.rates.proofs.terms.Terms.filter_length.Goals as goal

pub returns-then-self : goal.returns-then-self
returns-then-self c =
    let a = c.args.self in
    ap up_to8 c._muldiv-scaled.ensures ∙ sym (length_down a.row a.num a.den (omega arith))

pub returns : goal.returns
returns c = let a = c.args.self in sym (length_up a.row a.num a.den (omega arith))

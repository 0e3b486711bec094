-- `sine::remainder` meets its contract: x below y is left as it is, and what twice y leaves is put right by one difference (`proofs/Halving.antt`). Assumes nothing.
use mathlib.Core.Path.{◌≡◌, subst}
use Prim.Native.Nat.{suc, ◌-◌}
use native.Mathlib.Omega.{arith}
use Rattle.sine.specs.Halving.{Halves}
use Rattle.sine.proofs.Halving.{itself, last, further, kept, once_more}
use Rattle.sine.proofs.+remainder.Goals as goal

pub returns-then-x-y : goal.returns-then-x-y
returns-then-x-y t c = itself c.args.x c.args.y c.args.k c.requires c.if-x-y.true

pub returns-then-k-eq0 : goal.returns-then-k-eq0
returns-then-k-eq0 t c =
    let none : c.args.k ≡ 0 = omega arith in
    last c.args.x c.args.y (subst (Halves c.args.x c.args.y) none c.requires) c.if-x-y.false

pub remainder-r-requires : goal.remainder-r-requires
remainder-r-requires t c =
    let more : c.args.k ≡ suc (c.args.k - 1) = omega arith in
    (omega arith, further c.args.x c.args.y (c.args.k - 1) (subst (Halves c.args.x c.args.y) more c.requires))

pub returns-then-r-y : goal.returns-then-r-y
returns-then-r-y t c =
    let more : c.args.k ≡ suc (c.args.k - 1) = omega arith in
    kept c.args.x c.args.y (c.args.k - 1) (subst (Halves c.args.x c.args.y) more c.requires) c.remainder-r.result c.remainder-r.ensures c.if-r-y.true

pub returns-else-r-y : goal.returns-else-r-y
returns-else-r-y t c =
    let more : c.args.k ≡ suc (c.args.k - 1) = omega arith in
    once_more c.args.x c.args.y (c.args.k - 1) (subst (Halves c.args.x c.args.y) more c.requires) c.remainder-r.result c.remainder-r.ensures c.if-r-y.false

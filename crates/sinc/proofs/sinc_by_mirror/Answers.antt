-- `sinc::sinc_by_mirror` meets its contract: the sinc is even (`proofs/Mirrored.antt`), and values of f32 that have the same bits are the same. Assumes nothing.
use Rattle.std.proofs.Common.{◌≡◌, Bool, true, T, sym, subst}
use Rattle.sinc.proofs.Mirrored.{by_bits}
use Rattle.sinc.proofs.sinc_by_mirror.Goals as goal

passed : {t : Bool} → t ≡ true → T t
passed e = subst T (sym e) tt

pub returns-then-x-y : goal.returns-then-x-y
returns-then-x-y c =
    by_bits _ _ _ _ (passed c.well_formed.1.0.1) (passed c.well_formed.1.1.1.0.1) c.if-x-y.true c.requires.is_known

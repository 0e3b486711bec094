-- `rates::kernel_for` meets its contract: each way out has the tests that the definition has. Assumes nothing.
use Prim.Native.Nat.{◌+◌, ◌*◌, ◌/◌}
use native.Mathlib.Omega.{arith}
use borrow.Author.Tests.{le-leb, lt-leb}
use Rattle.rates.specs.Setting.{kernel_of}
use Rattle.rates.proofs.kernel_for.Goals as goal
use Rattle.rates.proofs.kernel_for.Goals.{else-n-den-via-then-n-den+else-n-den-2, else-n-den-via-else-n-den}

pub returns-then-n-den-2 : goal.returns-then-n-den-2
unfolding kernel_of
returns-then-n-den-2 c =
    let a = c.args in
    rw (le-leb (a.n * a.den) (a.n * a.oversample + 8) (omega arith), le-leb a.n (536870911 / a.den) c.if-n-den-2.true)

pub returns : goal.returns
unfolding kernel_of
returns c =
    let a = c.args in
    elim c.else-n-den.branch [
      | else-n-den-via-then-n-den+else-n-den-2 w ↦ rw (
        le-leb (a.n * a.den) (a.n * a.oversample + 8) w.if-n-den.true,
        lt-leb a.n (536870911 / a.den) w.if-n-den-2.false,
      )
      | else-n-den-via-else-n-den w ↦ rw (lt-leb (a.n * a.den) (a.n * a.oversample + 8) w.if-n-den.false)
    ]

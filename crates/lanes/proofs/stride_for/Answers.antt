-- `lanes::stride_for` meets its contract: a stride that is tested. Assumes nothing.
use Prim.Native.Nat.{ℕ, ◌+◌, ◌/◌, ◌≤◌, ◌<◌}
use native.Mathlib.Nat.{add-mul, one-mul, mul_comm, div-le_self, lt-div-mul-add, div-mul-le_self, mul-le-mul_right}
use native.Mathlib.Omega.{arith}
use Rattle.lanes.specs.Layout.{Strided}
use Rattle.lanes.proofs.stride_for.Goals as goal

-- a stride that goes into the room often enough
strided : (num reach : ℕ) → 0 < num → reach / num + 1 ≤ 2016 / num → Strided num reach (reach / num + 1)
strided num reach some h =
    record {
      some = omega arith;
      rows = omega (arith, mul-le-mul_right {m = reach / num + 1} {n = 2016 / num} num h, div-mul-le_self 2016 num, mul_comm num (reach / num + 1));
      columns = omega (arith, lt-div-mul-add {a = reach} some, add-mul (reach / num) 1 num, one-mul num);
      num_some = some;
    }

pub overflow_add-stride : goal.overflow_add-stride
overflow_add-stride c = let a = c.args in omega (arith, div-le_self a.reach a.num)

pub returns : goal.returns
returns c = strided _ _ (omega arith) c.if-num-stride.false

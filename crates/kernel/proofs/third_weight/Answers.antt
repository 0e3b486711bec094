-- `kernel::third_weight` meets its contract: going to f64 keeps each number, so the steps are the definition's. Assumes nothing.
use lib.Ieee.{sub, of_bits, of_int}
use Rattle.kernel.specs.Cubic.{third_weight}
use Rattle.kernel.proofs.third_weight.Goals as goal

pub returns : goal.returns
unfolding third_weight sub of_bits of_int
returns c =
    rw (c.narrow.ensures, c.f32_to_f64_with_nan-x.ensures, c.f32_to_f64_with_nan-y.ensures, c.f32_to_f64_with_nan-z.ensures)

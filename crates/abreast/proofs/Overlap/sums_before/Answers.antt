-- `abreast::Overlap::sums_before` meets its contract: over no samples the four sums are 0.0. Assumes nothing.
use Rattle.std.proofs.Common.{refl, sym, ap, slice_index}
use native.Mathlib.Nat.{sub_self}
use lib.Ieee.{of_bits}
use Rattle.kernel.specs.Interpolated.{four_sums}
use Rattle.abreast.specs.Interpolated.{output_sums}
use Rattle.abreast.proofs.Four.{four_is}
use Rattle.abreast.proofs.Overlap.sums_before.Goals as goal

pub output_on-requires-clause-sums_value : goal.output_on-requires-clause-sums_value
unfolding four_sums of_bits
output_on-requires-clause-sums_value c = refl

pub output_on-requires-2-clause-sums_value : goal.output_on-requires-2-clause-sums_value
unfolding four_sums of_bits
output_on-requires-2-clause-sums_value c = refl

pub output_on-requires-3-clause-sums_value : goal.output_on-requires-3-clause-sums_value
unfolding four_sums of_bits
output_on-requires-3-clause-sums_value c = refl

pub returns : goal.returns
unfolding four_sums of_bits
returns c =
    let s = c.args.self.now in
    four_is c.output_on.ensures c.output_on-2.ensures c.output_on-3.ensures
    (ap (output_sums s 3) (sym (sub_self (slice_index s.windows.starts 3))))

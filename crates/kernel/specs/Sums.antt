-- Document 01, "One output, one call": the sum of a direct row. Assumes nothing.
use Rattle.std.specs.Prelude.{ℕ, zero, suc, List, slice_index_or, Float}
use Rattle.std.specs.Float.{nan}
use Rattle.math.specs.Operators.{◌+ᶠ◌, ◌*ᶠ◌}
use Rattle.math.specs.Numerals.{nought}

-- entry j of a list; past the end a NaN, and the contracts ask that nothing is read there
abbrev pub at : List Float → ℕ → Float
at xs j = slice_index_or xs j nan

-- f 0 + f 1 + .. + f (n - 1), from 0.0 and in that order
unfoldable pub sum_to : ℕ → (ℕ → Float) → Float
sum_to zero f = nought
sum_to (suc j) f = sum_to j f +ᶠ f j

-- coefficient j times sample j, summed over the first n of each; a coefficient of 0 is not skipped
abbrev pub direct_sum : ℕ → List Float → List Float → Float
direct_sum n coefs window = sum_to n (λ j. at coefs j *ᶠ at window j)

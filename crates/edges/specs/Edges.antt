-- Document 01, "Small program": a last odd byte is dropped; n/2 zeros follow the samples, if any came. Assumes nothing.
use Rattle.std.specs.Prelude.{Bool, cond, List, ℕ, ◌*◌, ◌/◌, Float, length, take, drop, replicate}
use Rattle.math.specs.Numerals.{nought}

-- the bytes of the whole samples of a block, and the odd byte after them, if there is one
abbrev pub whole_of : List ℕ → List ℕ
whole_of bytes = take (2 * (length bytes / 2)) bytes

abbrev pub odd_of : List ℕ → List ℕ
odd_of bytes = drop (2 * (length bytes / 2)) bytes

-- the zeros that follow the samples: n/2, if any sample came
abbrev pub closing_zeros : Bool → ℕ → ℕ
closing_zeros came n = cond came (n / 2) 0

-- as samples
abbrev pub closing : Bool → ℕ → List Float
closing came n = replicate (closing_zeros came n) nought

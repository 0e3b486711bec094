-- Four interpolated outputs whose windows overlap: their sums on the way, and what they come to. Assumes nothing.
use Rattle.std.specs.Prelude.{ℕ, ◌-◌, List, [], ◌∷◌, slice_index, Float}
use Rattle.kernel.specs.Sums.{at}
use Rattle.kernel.specs.Interpolated.{four_sums, interpolated}
use Rattle.abreast.specs.declared.Overlap.{Overlap}
use Rattle.abreast.specs.Rows.{window_of}

-- output k's sums over the first `count` samples of its window
abbrev pub output_sums : Overlap → ℕ → ℕ → List Float
output_sums o k count = four_sums o.oversample (slice_index o.offsets k) count o.coefs.now (window_of o.windows k)

-- each output's sums over the samples of its window that lie among the first i of the history
abbrev pub sums_at : Overlap → ℕ → List (List Float)
sums_at o i =
    let w = o.windows.starts in
    output_sums o 0 (i - slice_index w 0)
    ∷ output_sums o 1 (i - slice_index w 1)
    ∷ output_sums o 2 (i - slice_index w 2)
    ∷ output_sums o 3 (i - slice_index w 3)
    ∷ []

-- each output's sums over all of its window
abbrev pub all_sums : Overlap → List (List Float)
all_sums o =
    let n = o.windows.n in output_sums o 0 n ∷ output_sums o 1 n ∷ output_sums o 2 n ∷ output_sums o 3 n ∷ []

-- output k, at its remainder
abbrev pub output_of : Overlap → ℕ → Float → Float
output_of o k frac = interpolated o.oversample (slice_index o.offsets k) frac o.windows.n o.coefs.now (window_of o.windows k)

-- the four outputs
abbrev pub four_interpolated : Overlap → List Float → List Float
four_interpolated o fracs =
    output_of o 0 (at fracs 0) ∷ output_of o 1 (at fracs 1) ∷ output_of o 2 (at fracs 2) ∷ output_of o 3 (at fracs 3) ∷ []

-- Document 01, "Refusal numbers": when a state's numbers belong together, as lists of tests over any quality row.
-- Assumes nothing.
use Rattle.std.specs.Prelude.{ℕ, ◌+◌, ◌*◌, ◌/◌, Bool, true, false, cond, not, ◌&&◌, ◌||◌, List, [], ◌∷◌, eqb, leb, ltb, ℤ, pos, negsuc, Float}
use Rattle.std.specs.Bool.{beq}
use Rattle.std.specs.Float.{nan, inf, fin}
use Rattle.sizes.specs.Sizes.{in_limits, buffer_entries, history_needed, max_history}
use Rattle.quality.specs.declared.QualityMapping.{QualityMapping}
use Rattle.rates.specs.Setting.{setting_of}
use Rattle.rates.specs.declared.Kernel.{Kernel}
use Rattle.rates.specs.declared.Kernel.TheVariants.{Unset, Direct, Interpolated}
use Rattle.rates.specs.declared.Setting.{Setting}
use Rattle.state.specs.State.{fresh_state, setting_in}
use Rattle.state.specs.declared.ResamplerState.{ResamplerState}

-- ---- tests

-- t, and every test of the list
abbrev pub and_all : Bool → List Bool → Bool
and_all t [] = t
and_all t (u ∷ us) = and_all (t && u) us

-- every test of the list holds
abbrev pub all_hold : List Bool → Bool
all_hold tests = and_all true tests

-- the same exponent
abbrev pub same_exponent : ℤ → ℤ → Bool
same_exponent (pos j) (pos k) = eqb j k
same_exponent (pos j) (negsuc k) = false
same_exponent (negsuc j) (pos k) = false
same_exponent (negsuc j) (negsuc k) = eqb j k

-- the same bits, told by sign, digits and exponent, since a format writes each value in one way: `proofs/Bits.antt` proves that they are the bits; a NaN is the same as nothing
unfoldable pub same_bits : Float → Float → Bool
same_bits nan y = false
same_bits (inf s) nan = false
same_bits (inf s) (inf t) = beq s t
same_bits (inf s) (fin t n d) = false
same_bits (fin s m e) nan = false
same_bits (fin s m e) (inf t) = false
same_bits (fin s m e) (fin t n d) = beq s t && eqb m n && same_exponent e d

-- a number for each kernel, to compare two by, and to stand for it in C
abbrev pub kernel_number : Kernel → ℕ
kernel_number Unset = 0
kernel_number Direct = 1
kernel_number Interpolated = 2

-- the state's setting is k, the cutoff by its bits; how many coefficients there are follows from the rest
unfoldable pub setting_tests : ResamplerState → Setting → List Bool
setting_tests s k =
    eqb s.num k.num
    ∷ eqb s.den k.den
    ∷ eqb s.int_advance k.int_advance
    ∷ eqb s.frac_advance k.frac_advance
    ∷ same_bits s.cutoff k.cutoff
    ∷ eqb s.filt_len k.filt_len
    ∷ eqb s.oversample k.oversample
    ∷ eqb (kernel_number s.kernel) (kernel_number k.kernel)
    ∷ []

-- ---- a state without a source rate

-- the target is in limits, and everything else is what the fresh state of that target has
unfoldable pub fresh_tests : ResamplerState → List Bool
fresh_tests s =
    let fresh = fresh_state s.target in
    in_limits s.target
    ∷ eqb s.buffer_size fresh.buffer_size
    ∷ all_hold (setting_tests s (setting_in fresh))
    ∷ eqb s.mem_alloc_size fresh.mem_alloc_size
    ∷ eqb s.samp_frac_num fresh.samp_frac_num
    ∷ eqb s.last_sample fresh.last_sample
    ∷ eqb s.magic_samples fresh.magic_samples
    ∷ eqb s.started fresh.started
    ∷ []

-- ---- a state with one

-- how far on the position may be: n/2, whatever the magic samples
abbrev pub position_bound : ℕ → ℕ → ℕ
position_bound n magic = n / 2

-- the history's length, and what moves from call to call
unfoldable pub place_tests : ResamplerState → List Bool
place_tests s =
    let n = s.filt_len in
    let alloc = s.mem_alloc_size in
    let magic = s.magic_samples in
    -- the history is long enough for the filter
    leb (history_needed n) alloc
    -- and no longer than any two rates in limits need
    ∷ leb alloc max_history
    -- the phase is less than one sample
    ∷ ltb s.samp_frac_num s.den
    -- the position is within its bound
    ∷ leb s.last_sample (position_bound n magic)
    -- the history is long enough for the magic samples too, each counted twice
    ∷ leb (history_needed (n + 2 * magic)) alloc
    -- started is a flag
    ∷ leb s.started 1
    -- and before the first round there are no magic samples
    ∷ (not (eqb s.started 0) || eqb magic 0)
    ∷ []

-- both rates are in limits, the buffer has its one size, the setting is what the rates give, and the tests above
unfoldable pub rated_tests : QualityMapping → ResamplerState → List Bool
rated_tests row s =
    in_limits s.source
    ∷ in_limits s.target
    ∷ eqb s.buffer_size buffer_entries
    ∷ all_hold (setting_tests s (setting_of row s.source s.target))
    ∷ place_tests s

-- ---- either

-- the tests of the one kind or of the other: a source of 0 says that no rate was set
unfoldable pub belongs_together : QualityMapping → ResamplerState → Bool
belongs_together row s = cond (eqb s.source 0) (all_hold (fresh_tests s)) (all_hold (rated_tests row s))

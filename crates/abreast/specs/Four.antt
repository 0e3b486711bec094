-- Document 01, "One output, one call": four outputs, each of its phase and its window. Assumes nothing.
use Rattle.std.specs.Prelude.{ℕ, List, [], ◌∷◌, drop, slice_index, slice_index_or, Float}
use Rattle.kernel.specs.Step.{step_of, Reaches}
use Rattle.kernel.specs.declared.Phase.{Phase}
use Rattle.kernel.specs.declared.Phase.TheVariants.{Direct}

-- phase k of four
abbrev pub phase : List Phase → ℕ → Phase
phase phases k = slice_index_or phases k (Direct 0)

-- the four outputs
abbrev pub four_steps : List Phase → ℕ → ℕ → List Float → List ℕ → List Float → List Float
four_steps phases n oversample coefs starts history =
    step_of (phase phases 0) n oversample coefs (drop (slice_index starts 0) history)
    ∷ step_of (phase phases 1) n oversample coefs (drop (slice_index starts 1) history)
    ∷ step_of (phase phases 2) n oversample coefs (drop (slice_index starts 2) history)
    ∷ step_of (phase phases 3) n oversample coefs (drop (slice_index starts 3) history)
    ∷ []

-- the table holds what each phase reads
pub record FourReach (phases : List Phase) (n oversample size : ℕ) : Type 0 where
  pub a : Reaches (phase phases 0) n oversample size
  pub b : Reaches (phase phases 1) n oversample size
  pub c : Reaches (phase phases 2) n oversample size
  pub d : Reaches (phase phases 3) n oversample size

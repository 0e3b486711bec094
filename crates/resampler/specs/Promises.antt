-- Document 01, "What has to be pinned by the contracts": for the calls that are lent slices, the answer and the slices at exit, together.
-- A primed name is a slice's contents at exit. A slice that is lent for reading only cannot change.
-- Assumes nothing.
use Rattle.std.specs.Prelude.{◌≡◌, List, ℕ, Float}
use Rattle.quality.specs.declared.QualityMapping.{QualityMapping}
use Rattle.state.specs.declared.ResamplerState.{ResamplerState}
use Rattle.resampler.specs.Answers.{Answer, told}
use Rattle.resampler.specs.Entries.{rate_told, rate_history, rate_coefficients, process_told, process_history, process_output, reset_told, reset_history}

-- set rate
pub record SetsRate (row : QualityMapping) (s : ResamplerState) (source : ℕ) (mem coefs : List Float) (answer : Answer) (mem' coefs' : List Float) : Type 0 where
  pub tells : told answer ≡ rate_told row s source mem coefs
  pub history : mem' ≡ rate_history row s source mem coefs
  pub coefficients : coefs' ≡ rate_coefficients row s source mem coefs

-- process
pub record Processes (row : QualityMapping) (s : ResamplerState) (mem coefs input out : List Float) (answer : Answer) (mem' out' : List Float) : Type 0 where
  pub tells : told answer ≡ process_told row s mem coefs input out
  pub history : mem' ≡ process_history row s mem coefs input out
  pub output : out' ≡ process_output row s mem coefs input out

-- reset
pub record Resets (row : QualityMapping) (s : ResamplerState) (mem : List Float) (answer : Answer) (mem' : List Float) : Type 0 where
  pub tells : told answer ≡ reset_told row s mem
  pub history : mem' ≡ reset_history row s mem

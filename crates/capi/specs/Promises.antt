-- For the exported calls that are lent slices, the answer and the slices at exit, together. Each is the resampler's own definition, said of the
-- state that the flat one stands for. A primed name is a slice's contents at exit.
-- Assumes nothing.
use Rattle.std.specs.Prelude.{◌≡◌, List, cond, not, ◌||◌, ℕ, Float}
use Rattle.sizes.specs.Sizes.{in_limits, history_needed}
use Rattle.quality.specs.House.{house}
use Rattle.rates.specs.Setting.{setting_of}
use Rattle.resampler.specs.Entries.{rate_told, rate_history, rate_coefficients, process_told, process_history, process_output, reset_told, reset_history}
use Rattle.flat.specs.Flat.{by_state, flat_call, no_sizes}
use Rattle.flat.specs.declared.FlatState.{FlatState}
use Rattle.flat.specs.declared.FlatAnswer.{FlatAnswer}
use Rattle.flat.specs.declared.FlatSizes.{FlatSizes}

-- set rate
pub record FlatSetsRate (f : FlatState) (source : ℕ) (mem coefs : List Float) (answer : FlatAnswer) (mem' coefs' : List Float) : Type 0 where
  pub tells : answer ≡ flat_call f (λ s. rate_told house s source mem coefs)
  pub history : mem' ≡ by_state f mem (λ s. rate_history house s source mem coefs)
  pub coefficients : coefs' ≡ by_state f coefs (λ s. rate_coefficients house s source mem coefs)

-- process
pub record FlatProcesses (f : FlatState) (mem coefs input out : List Float) (answer : FlatAnswer) (mem' out' : List Float) : Type 0 where
  pub tells : answer ≡ flat_call f (λ s. process_told house s mem coefs input out)
  pub history : mem' ≡ by_state f mem (λ s. process_history house s mem coefs input out)
  pub output : out' ≡ by_state f out (λ s. process_output house s mem coefs input out)

-- reset
pub record FlatResets (f : FlatState) (mem : List Float) (answer : FlatAnswer) (mem' : List Float) : Type 0 where
  pub tells : answer ≡ flat_call f (λ s. reset_told house s mem)
  pub history : mem' ≡ by_state f mem (λ s. reset_history house s mem)

-- ---- the sizes that two rates need

-- refusal 1 where a rate is out of limits; else how long the history of a new state has to be, and how many coefficients there are
unfoldable pub needed_sizes : ℕ → ℕ → FlatSizes
needed_sizes source target =
    cond (not (in_limits source) || not (in_limits target)) no_sizes
    (record { refusal = 0; history = history_needed (setting_of house source target).filt_len; coefficients = (setting_of house source target).coefs })

-- ---- a refused call: proofs/Refused.antt proves what it leaves

-- every number but 0 refuses
abbrev pub FlatRefused : FlatAnswer → Type 0
FlatRefused answer = answer.refusal ≡ 0 → ⊥

-- counts of zero, and the numbers as they were given
pub record FlatUnmoved (f : FlatState) (answer : FlatAnswer) : Type 0 where
  pub consumed : answer.consumed ≡ 0
  pub written : answer.written ≡ 0
  pub state : answer.state ≡ f

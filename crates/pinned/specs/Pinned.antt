-- Document 01, "Refusal numbers" and "What has to be pinned by the contracts": what is claimed of every call, beyond its contract.
-- `proofs/` proves it of each call, and that two results which a contract allows are equal. Last, the state at which a recording starts.
-- Assumes nothing.
use Rattle.std.specs.Prelude.{◌≡◌, true, List, ℕ, ◌≤◌, Float, length}
use Rattle.timeline.specs.Laws.{KeptFrom}
use Rattle.quality.specs.declared.QualityMapping.{QualityMapping}
use Rattle.rates.specs.Setting.{setting_of}
use Rattle.state.specs.State.{fresh_state, zero_state, setting_in}
use Rattle.state.specs.Belongs.{belongs_together}
use Rattle.state.specs.declared.ResamplerState.{ResamplerState}
use Rattle.judge.specs.declared.Refusal.TheVariants.{Rate, State}
use Rattle.update.specs.Updated.{updated_state}
use Rattle.resampler.specs.Answers.{Told, refused}

-- a call that is refused: counts of zero, and the state s as it was given
pub record Unmoved (s : ResamplerState) (t : Told) : Type 0 where
  pub consumed : t.consumed ≡ 0
  pub written : t.written ≡ 0
  pub state : t.state ≡ s

-- the call is refused, which every number but 0 says
abbrev pub IsRefused : Told → Type 0
IsRefused t = t.number ≡ 0 → ⊥

-- what a refused new state tells: 1, and the state whose numbers are all 0
abbrev pub new_refused : Told
new_refused = refused Rate zero_state

-- what every later call with that state tells: 7, and the state as it was given
abbrev pub zero_refused : Told
zero_refused = refused State zero_state

-- the output keeps what lies past the written count, and the counts keep within the input and the output
pub record PastWritten (t : Told) (input before after : List Float) : Type 0 where
  pub consumed : t.consumed ≤ length input
  pub written : t.written ≤ length before
  pub rest : KeptFrom t.written before after

-- how much of the history is used: alloc entries, by the state that the call hands back
abbrev pub history_used : Told → ℕ
history_used t = t.state.mem_alloc_size

-- how many of the coefficients: as many as that state's setting has
abbrev pub coefficients_used : Told → ℕ
coefficients_used t = (setting_in t.state).coefs

-- an accepted call hands back a state whose numbers belong together
abbrev pub Belonging : QualityMapping → Told → Type 0
Belonging row t = t.number ≡ 0 → belongs_together row t.state ≡ true

-- the state that a new one for the target leads to, once its first rate, the source, is set
abbrev pub first_state : QualityMapping → ℕ → ℕ → ResamplerState
first_state row source target = updated_state (fresh_state target) source (setting_of row source target)

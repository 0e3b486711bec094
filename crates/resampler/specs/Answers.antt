-- Document 01, "Refusal numbers": what each case of an answer tells. Assumes nothing.
use Rattle.std.specs.Prelude.{◌≡◌, ℕ, Result, Ok, Err, MatchResult}
use Rattle.state.specs.declared.ResamplerState.{ResamplerState}
use Rattle.judge.specs.Refusals.{refusal_number}
use Rattle.judge.specs.declared.Refusal.{Refusal}
use Rattle.judge.specs.Verdicts.{Verdict}
use Rattle.process.specs.declared.Accepted.{Accepted}
use Rattle.resampler.specs.declared.Refused.{Refused}

-- what a call answers
abbrev pub Answer : Type 0
Answer = Result Accepted Refused

-- document 01's number, 0 where the call is accepted; samples consumed and outputs written; and the state for the next call
pub record Told : Type 0 where
  pub number : ℕ
  pub consumed : ℕ
  pub written : ℕ
  pub state : ResamplerState

-- a refusal: its number, counts of zero, and the state as it was given
abbrev pub refused : Refusal → ResamplerState → Told
refused r s = record { number = refusal_number r; consumed = 0; written = 0; state = s }

-- accepted, with these counts
abbrev pub accepted : ResamplerState → ℕ → ℕ → Told
accepted s consumed written = record { number = 0; consumed = consumed; written = written; state = s }

-- what an answer tells
abbrev pub told : Answer → Told
told (Err r) = refused r.refusal r.state
told (Ok a) = accepted a.state a.consumed.0 a.written.0

-- what `?` takes of a verdict on a call with the state s: a refusal has that state beside it
abbrev pub Judged : Verdict → ResamplerState → Result (Unit {0}) Refused → Type 0
Judged v s r = MatchResult v (λ x. r ≡ Ok x) (λ refusal. r ≡ Err (record { refusal = refusal; state = s }))

-- what a verdict leads to
abbrev pub by_verdict : {A : Type 0} → Verdict → (Refusal → A) → A → A
by_verdict (Err r) refusal done = refusal r
by_verdict (Ok x) refusal done = done

-- A verdict and a change of rate by their cases, and what a refusal tells. Assumes nothing.
use mathlib.Core.Path.{◌≡◌, refl}
use mathlib.Core.Bool.{Bool, true, false}
use mathlib.Core.Logic.{inl, inr}
use Prim.Native.Nat.{ℕ, ◌<◌}
use native.Mathlib.Omega.{arith}
use borrow.Author.Tests.{eq-eqb, ne_eqb}
use lib.Dec.{eqb}
use Rattle.std.specs.Prelude.{Ok, Err}
use Rattle.std.proofs.lemmas.Bool.{cases_eq}
use Rattle.state.specs.declared.ResamplerState.{ResamplerState}
use Rattle.judge.specs.Refusals.{refusal_number}
use Rattle.judge.specs.Verdicts.{Verdict, accept}
use Rattle.judge.specs.declared.Refusal.{Refusal}
use Rattle.judge.specs.declared.Refusal.TheVariants.{Rate, History, Coefficients, EmptyInput, TooLong, NoRate, State, Mark, Version}
use Rattle.resampler.specs.Answers.{refused, accepted, by_verdict}
use Rattle.pinned.specs.Pinned.{IsRefused}

-- no refusal has the number 0
pub numbered : (r : Refusal) → 0 < refusal_number r
numbered Rate = omega arith
numbered History = omega arith
numbered Coefficients = omega arith
numbered EmptyInput = omega arith
numbered TooLong = omega arith
numbered NoRate = omega arith
numbered State = omega arith
numbered Mark = omega arith
numbered Version = omega arith

-- each case, with the verdict known where the call is accepted
pub cases : (P : Verdict → Type 0) (v : Verdict) → ((r : Refusal) → P (Err r)) → (v ≡ accept → P accept) → P v
cases P (Err r) f g = f r
cases P (Ok x) f g = g refl

-- the test of an accepted change of rate: the same rate again, or another
pub same_or_other : (P : Bool → Type 0) (s : ResamplerState) (source : ℕ) → P true → ((s.source ≡ source → ⊥) → P false) → P (eqb s.source source)
same_or_other P s source same other = elim (cases_eq s.source source) [
  | inl e ↦ rw (eq-eqb s.source source e) same
  | inr n ↦ rw (ne_eqb s.source source n) (other n)
]

-- a call that is refused was told so by its verdict
pub refused_by : (v : Verdict) (given after : ResamplerState) (consumed written : ℕ)
    → IsRefused (by_verdict v (λ r. refused r given) (accepted after consumed written)) → (r : Refusal) × (v ≡ Err r)
refused_by (Err r) given after consumed written e = (r, refl)
refused_by (Ok x) given after consumed written e = absurd (e refl)

-- For each verdict, the answer and the slices that the contract asks for. Assumes nothing.
use mathlib.Core.Path.{◌≡◌, refl, sym, ◌∙◌, ap}
use mathlib.Core.List.{List}
use Prim.Native.Nat.{ℕ}
use native.Mathlib.Omega.{arith}
use borrow.Author.Tests.{eq-eqb, ne_eqb}
use lib.Ieee.{Float}
use lib.ListN.{length}
use Rattle.std.specs.Prelude.{Result, Ok, Err, IsErrAnd}
use Rattle.history.specs.Zeroed.{zeroed}
use Rattle.quality.specs.declared.QualityMapping.{QualityMapping}
use Rattle.rates.specs.Setting.{setting_of}
use Rattle.state.specs.State.{moved_to}
use Rattle.state.specs.declared.ResamplerState.{ResamplerState}
use Rattle.judge.specs.Verdicts.{Verdict, accept, rate_verdict, process_verdict, reset_verdict}
use Rattle.update.specs.Updated.{updated_state, updated_history, updated_coefficients}
use Rattle.process.specs.Process.{Plays}
use Rattle.process.specs.declared.Accepted.{Accepted}
use Rattle.resampler.specs.Answers.{Answer, told, accepted, Judged}
use Rattle.resampler.specs.Entries.{rate_told, rate_history, rate_coefficients, process_told, process_history, process_output, reset_told, reset_history}
use Rattle.resampler.specs.Promises.{SetsRate, Processes, Resets}
use Rattle.resampler.specs.declared.Refused.{Refused}

-- what the exit of a `?` returns is the refusal that it met
pub handed_back : {f : Refused} (r : Answer) → IsErrAnd r (λ y. y ≡ f) → r ≡ Err f
handed_back (Ok x) h = absurd h
handed_back (Err y) h = rw h

-- what `?` passes on was accepted
pub passed : (v : Verdict) (s : ResamplerState) (r : Result (Unit {0}) Refused) → Judged v s r → {x : Unit {0}} → r ≡ Ok x → v ≡ accept
passed (Ok x) s r j e = refl
passed (Err y) s r j e = let z : ◌≡◌ {A = ℕ} 0 1 = cc in absurd (omega arith)

-- and what it gives back was refused so, with the state
pub stopped : (v : Verdict) (s : ResamplerState) (r : Result (Unit {0}) Refused) → Judged v s r → {f : Refused} → r ≡ Err f → (v ≡ Err f.refusal) × (f.state ≡ s)
stopped (Ok x) s r j e = let z : ◌≡◌ {A = ℕ} 0 1 = cc in absurd (omega arith)
stopped (Err y) s r j {f} e = let q : record { refusal = y; state = s } ≡ f = cc in rw (← q) (refl, refl)

-- the same of a verdict under the row that is the house row
module _ {row house : QualityMapping} (verdict : QualityMapping → Verdict) (is : row ≡ house) {v : Verdict} (by : v ≡ verdict row)
    (s : ResamplerState) {r : Result (Unit {0}) Refused} (j : Judged v s r) where
  pub accepts : {x : Unit {0}} → r ≡ Ok x → verdict house ≡ accept
  accepts e = ap verdict (sym is) ∙ sym by ∙ passed v s r j e

  pub refuses : {f : Refused} → r ≡ Err f → (verdict house ≡ Err f.refusal) × (f.state ≡ s)
  refuses e = let p = stopped v s r j e in (ap verdict (sym is) ∙ sym by ∙ p.0, p.1)

module _ (row : QualityMapping) (s : ResamplerState) (source : ℕ) (mem coefs : List Float) where
  pub rate_refused : (f : Refused) → (rate_verdict row s source (length mem) (length coefs) ≡ Err f.refusal) × (f.state ≡ s)
      → SetsRate row s source mem coefs (Err f) mem coefs
  unfolding rate_told rate_history rate_coefficients
  rate_refused f e = record { tells = rw (e.0, e.1); history = rw e.0; coefficients = rw e.0 }

  pub rate_same : {answer : Answer} → told answer ≡ accepted s 0 0 → rate_verdict row s source (length mem) (length coefs) ≡ accept
      → s.source ≡ source → SetsRate row s source mem coefs answer mem coefs
  unfolding rate_told rate_history rate_coefficients
  rate_same a e same =
      let t = eq-eqb s.source source same in
      record { tells = a ∙ rw (e, t); history = rw (e, t); coefficients = rw (e, t) }

  pub rate_changed : {answer : Answer} {t : ResamplerState} {m l : List Float} → told answer ≡ accepted t 0 0
      → rate_verdict row s source (length mem) (length coefs) ≡ accept → (s.source ≡ source → ⊥)
      → t ≡ updated_state s source (setting_of row source s.target)
      → m ≡ updated_history s (setting_of row source s.target) mem
      → l ≡ updated_coefficients (setting_of row source s.target) coefs
      → SetsRate row s source mem coefs answer m l
  unfolding rate_told rate_history rate_coefficients
  rate_changed a e other st hi co =
      let o = ne_eqb s.source source other in
      record {
        tells = a ∙ rw (e, o) (ap (λ (x : ResamplerState). accepted x 0 0) st);
        history = rw (e, o) hi;
        coefficients = rw (e, o) co;
      }

module _ (row : QualityMapping) (s : ResamplerState) (mem coefs input out : List Float) where
  pub process_refused : (f : Refused)
      → (process_verdict row s (length mem) (length coefs) (length input) (length out) ≡ Err f.refusal) × (f.state ≡ s)
      → Processes row s mem coefs input out (Err f) mem out
  unfolding process_told process_history process_output
  process_refused f e = record { tells = rw (e.0, e.1); history = rw e.0; output = rw e.0 }

  pub process_done : {a : Accepted} {m o : List Float} → process_verdict row s (length mem) (length coefs) (length input) (length out) ≡ accept
      → Plays s mem coefs input out a m o → Processes row s mem coefs input out (Ok a) m o
  unfolding process_told process_history process_output
  process_done e p = record { tells = rw (e, p.state, p.consumed, p.written); history = rw e p.history; output = rw e p.outputs }

module _ (row : QualityMapping) (s : ResamplerState) (mem : List Float) where
  pub reset_refused : (f : Refused) → (reset_verdict row s (length mem) ≡ Err f.refusal) × (f.state ≡ s) → Resets row s mem (Err f) mem
  unfolding reset_told reset_history
  reset_refused f e = record { tells = rw (e.0, e.1); history = rw e.0 }

  pub reset_done : {answer : Answer} {t : ResamplerState} {m : List Float} → told answer ≡ accepted t 0 0
      → reset_verdict row s (length mem) ≡ accept → t ≡ moved_to s s.started 0 0 0 → m ≡ zeroed mem 0 s.mem_alloc_size
      → Resets row s mem answer m
  unfolding reset_told reset_history
  reset_done a e st hi = record { tells = a ∙ rw e (ap (λ (x : ResamplerState). accepted x 0 0) st); history = rw e hi }

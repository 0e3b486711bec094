-- What each verdict says of the state and the lengths, for those who act on it. Assumes nothing.
use mathlib.Core.Path.{◌≡◌, refl}
use mathlib.Core.Bool.{Bool, true, false, not, cond, ◌||◌}
use Prim.Native.Nat.{ℕ, ◌≤◌}
use native.Mathlib.Omega.{arith}
use borrow.Author.Tests.{ne_eqb, eqb-false, ltb-false, not-false}
use lib.Dec.{eqb, ltb}
use Rattle.std.specs.Prelude.{Err}
use Rattle.std.proofs.lemmas.Bool.{or_parts}
use Rattle.sizes.specs.Sizes.{InLimits, in_limits}
use Rattle.sizes.proofs.Tests.{test_passed}
use Rattle.quality.specs.declared.QualityMapping.{QualityMapping}
use Rattle.rates.specs.Setting.{setting_of}
use Rattle.state.specs.State.{zero_state, setting_in}
use Rattle.state.specs.Belongs.{belongs_together}
use Rattle.state.specs.declared.ResamplerState.{ResamplerState}
use Rattle.state.proofs.Belonging.{zero_refused_lem}
use Rattle.judge.specs.Refusals.{max_call}
use Rattle.judge.specs.Verdicts.{Verdict, accept, refuse_if, history_after, new_verdict, rate_verdict, process_verdict, reset_verdict, skip_verdict}
use Rattle.judge.specs.declared.Refusal.{Refusal}
use Rattle.judge.specs.declared.Refusal.TheVariants.{Coefficients, State}

-- where a call is accepted, no test before it held
past : (t : Bool) (r : Refusal) (rest : Verdict) → refuse_if t r rest ≡ accept → (t ≡ false) × (rest ≡ accept)
past true r rest e = let z : ◌≡◌ {A = ℕ} 0 1 = cc in absurd (omega arith)
past false r rest e = (refl, e)

-- nor the test that leads round the others
unless : (t : Bool) (rest : Verdict) → t ≡ false → cond t accept rest ≡ accept → rest ≡ accept
unless t rest f e = rw f at e

-- ---- new state
pub new_accepts : (target : ℕ) → new_verdict target ≡ accept → InLimits target
unfolding new_verdict
new_accepts target e = test_passed target (not-false _ (past (not (in_limits target)) _ accept e).0)

-- ---- set rate: the lengths are asked for unless it is the same rate again
pub record RateAccepted (row : QualityMapping) (s : ResamplerState) (source mem coefs : ℕ) : Type 0 where
  pub belongs : belongs_together row s ≡ true
  pub source_in : InLimits source
  pub history : (s.source ≡ source → ⊥) → history_after s (setting_of row source s.target) ≤ mem
  pub coefficients : (s.source ≡ source → ⊥) → (setting_of row source s.target).coefs ≤ coefs

module _ (row : QualityMapping) (s : ResamplerState) (source mem coefs : ℕ) where
  pub rate_accepts : rate_verdict row s source mem coefs ≡ accept → RateAccepted row s source mem coefs
  unfolding rate_verdict
  rate_accepts e =
      let p7 = past (not (belongs_together row s)) _ _ e in
      let p1 = past (not (in_limits source)) _ _ p7.1 in
      let new = setting_of row source s.target in
      let p2 : (s.source ≡ source → ⊥)
      → (ltb mem (history_after s new) ≡ false) × (refuse_if (ltb coefs new.coefs) Coefficients accept ≡ accept) =
      λ other. past (ltb mem (history_after s new)) _ _ (unless (eqb s.source source) _ (ne_eqb s.source source other) p1.1) in
      record {
        belongs = not-false _ p7.0;
        source_in = test_passed source (not-false _ p1.0);
        history = λ other. ltb-false mem (history_after s new) (p2 other).0;
        coefficients = λ other. ltb-false coefs new.coefs (past (ltb coefs new.coefs) _ accept (p2 other).1).0;
      }

-- ---- process
pub record ProcessAccepted (row : QualityMapping) (s : ResamplerState) (mem coefs : ℕ) : Type 0 where
  pub belongs : belongs_together row s ≡ true
  pub has_rate : s.source ≡ 0 → ⊥
  pub history : s.mem_alloc_size ≤ mem
  pub coefficients : (setting_in s).coefs ≤ coefs

pub process_accepts : (row : QualityMapping) (s : ResamplerState) (mem coefs inn room : ℕ)
    → process_verdict row s mem coefs inn room ≡ accept → ProcessAccepted row s mem coefs
unfolding process_verdict
process_accepts row s mem coefs inn room e =
    let p7 = past (not (belongs_together row s)) _ _ e in
    let p6 = past (eqb s.source 0) _ _ p7.1 in
    let p2 = past (ltb mem s.mem_alloc_size) _ _ p6.1 in
    let p3 = past (ltb coefs (setting_in s).coefs) _ _ p2.1 in
    record {
      belongs = not-false _ p7.0;
      has_rate = eqb-false s.source 0 p6.0;
      history = ltb-false mem s.mem_alloc_size p2.0;
      coefficients = ltb-false coefs (setting_in s).coefs p3.0;
    }

-- nor is the input or the output too long
pub process_lengths : (row : QualityMapping) (s : ResamplerState) (mem coefs inn room : ℕ)
    → process_verdict row s mem coefs inn room ≡ accept → (inn ≤ max_call) × (room ≤ max_call)
unfolding process_verdict
process_lengths row s mem coefs inn room e =
    let p7 = past (not (belongs_together row s)) _ _ e in
    let p6 = past (eqb s.source 0) _ _ p7.1 in
    let p2 = past (ltb mem s.mem_alloc_size) _ _ p6.1 in
    let p3 = past (ltb coefs (setting_in s).coefs) _ _ p2.1 in
    let p4 = past (eqb inn 0) _ _ p3.1 in
    let p5 = past (ltb max_call inn || ltb max_call room) _ accept p4.1 in
    let (i, o) = or_parts (ltb max_call inn) (ltb max_call room) p5.0 in
    (ltb-false max_call inn i, ltb-false max_call room o)

-- ---- reset and skip
pub record ResetAccepted (row : QualityMapping) (s : ResamplerState) (mem : ℕ) : Type 0 where
  pub belongs : belongs_together row s ≡ true
  pub history : s.mem_alloc_size ≤ mem

pub reset_accepts : (row : QualityMapping) (s : ResamplerState) (mem : ℕ) → reset_verdict row s mem ≡ accept → ResetAccepted row s mem
unfolding reset_verdict
reset_accepts row s mem e =
    let p7 = past (not (belongs_together row s)) _ _ e in
    let p2 = past (ltb mem s.mem_alloc_size) _ accept p7.1 in
    record { belongs = not-false _ p7.0; history = ltb-false mem s.mem_alloc_size p2.0 }

pub skip_accepts : (row : QualityMapping) (s : ResamplerState) → skip_verdict row s ≡ accept → belongs_together row s ≡ true
unfolding skip_verdict
skip_accepts row s e = not-false _ (past (not (belongs_together row s)) _ accept e).0

-- ---- the state whose numbers are all 0 gets 7 from each
pub zero_gets_7 : (row : QualityMapping) (source mem coefs inn room : ℕ)
    → (rate_verdict row zero_state source mem coefs ≡ Err State) × (process_verdict row zero_state mem coefs inn room ≡ Err State) × (reset_verdict row zero_state mem ≡ Err State) × (skip_verdict row zero_state ≡ Err State)
unfolding rate_verdict process_verdict reset_verdict skip_verdict
zero_gets_7 row source mem coefs inn room =
    let z = zero_refused_lem row in
    (rw z, rw z, rw z, rw z)

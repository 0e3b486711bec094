-- A refused call through C: counts of zero, the numbers as they were given, and no slice changed. It follows from the contracts, by what holds
-- of the resampler's calls and because nothing is lost in the twins.
-- Assumes nothing.
use mathlib.Core.Path.{◌≡◌, refl, ap, ◌∙◌}
use mathlib.Core.Bool.{Bool, true, false}
use mathlib.Core.List.{List}
use Prim.Native.Nat.{ℕ}
use borrow.Author.Tests.{leb-true}
use lib.Ieee.{Float}
use Rattle.quality.specs.House.{house}
use Rattle.state.specs.declared.ResamplerState.{ResamplerState}
use Rattle.resampler.specs.Answers.{Told}
use Rattle.resampler.specs.Entries.{rate_told, rate_history, rate_coefficients, process_told, process_history, process_output, reset_told, reset_history, skip_told}
use Rattle.pinned.specs.Pinned.{Unmoved, IsRefused}
use Rattle.pinned.proofs.Untouched.{rate_untouched, process_untouched, reset_untouched, skip_untouched}
use Rattle.flat.specs.Flat.{flat_of, state_of, is_state, by_state, flat_told, no_state, flat_call}
use Rattle.flat.specs.declared.FlatState.{FlatState}
use Rattle.flat.specs.declared.FlatAnswer.{FlatAnswer}
use Rattle.flat.proofs.Twins.{flat_back}
use Rattle.capi.specs.Promises.{FlatSetsRate, FlatProcesses, FlatResets, FlatRefused, FlatUnmoved}

-- ---- one call, by whether some state has the numbers
module _ (f : FlatState) (call : ResamplerState → Told) {answer : FlatAnswer} (a : answer ≡ flat_call f call) (no : FlatRefused answer) where
  -- the resampler was called, and refused
  called : is_state f ≡ true → answer ≡ flat_told (call (state_of f))
  called e = rw e at a

  refused_too : is_state f ≡ true → IsRefused (call (state_of f))
  refused_too e z = no (ap (λ (x : FlatAnswer). x.refusal) (called e) ∙ z)

  comes_back : ((s : ResamplerState) → IsRefused (call s) → Unmoved s (call s)) → FlatUnmoved f answer
  comes_back still = by (is_state f) refl
    where
      by : (t : Bool) → is_state f ≡ t → FlatUnmoved f answer
      by false e =
          let n : answer ≡ no_state f = rw e at a in
          record { consumed = ap (λ (x : FlatAnswer). x.consumed) n; written = ap (λ (x : FlatAnswer). x.written) n; state = ap (λ (x : FlatAnswer). x.state) n }
      by true e =
          let u = still (state_of f) (refused_too e) in
          record {
            consumed = ap (λ (x : FlatAnswer). x.consumed) (called e) ∙ u.consumed;
            written = ap (λ (x : FlatAnswer). x.written) (called e) ∙ u.written;
            state = ap (λ (x : FlatAnswer). x.state) (called e) ∙ ap flat_of u.state ∙ flat_back f (leb-true f.kernel 2 e);
          }

  slice_kept : (before : List Float) (said : ResamplerState → List Float) {after : List Float} → after ≡ by_state f before said
      → ((s : ResamplerState) → IsRefused (call s) → said s ≡ before) → after ≡ before
  slice_kept before said {after} l still = l ∙ by (is_state f) refl
    where
      by : (t : Bool) → is_state f ≡ t → by_state f before said ≡ before
      by false e = rw e
      by true e = rw e (still (state_of f) (refused_too e))

-- ---- the four calls on a state
module _ (f : FlatState) {answer : FlatAnswer} (no : FlatRefused answer) where
  pub rate_comes_back : (source : ℕ) (mem coefs : List Float) {mem' coefs' : List Float} → FlatSetsRate f source mem coefs answer mem' coefs'
      → FlatUnmoved f answer × (mem' ≡ mem) × (coefs' ≡ coefs)
  rate_comes_back source mem coefs p =
      let call : ResamplerState → Told = λ s. rate_told house s source mem coefs in (
        comes_back f call p.tells no (λ s r. (rate_untouched house s source mem coefs r).0),
        slice_kept f call p.tells no mem (λ s. rate_history house s source mem coefs) p.history (λ s r. (rate_untouched house s source mem coefs r).1),
        slice_kept f call p.tells no coefs (λ s. rate_coefficients house s source mem coefs) p.coefficients (λ s r. (rate_untouched house s source mem coefs r).2),
      )

  pub process_comes_back : (mem coefs input out : List Float) {mem' out' : List Float} → FlatProcesses f mem coefs input out answer mem' out'
      → FlatUnmoved f answer × (mem' ≡ mem) × (out' ≡ out)
  process_comes_back mem coefs input out p =
      let call : ResamplerState → Told = λ s. process_told house s mem coefs input out in (
        comes_back f call p.tells no (λ s r. (process_untouched house s mem coefs input out r).0),
        slice_kept f call p.tells no mem (λ s. process_history house s mem coefs input out) p.history (λ s r. (process_untouched house s mem coefs input out r).1),
        slice_kept f call p.tells no out (λ s. process_output house s mem coefs input out) p.output (λ s r. (process_untouched house s mem coefs input out r).2),
      )

  pub reset_comes_back : (mem : List Float) {mem' : List Float} → FlatResets f mem answer mem' → FlatUnmoved f answer × (mem' ≡ mem)
  reset_comes_back mem p =
      let call : ResamplerState → Told = λ s. reset_told house s mem in (
        comes_back f call p.tells no (λ s r. (reset_untouched house s mem r).0),
        slice_kept f call p.tells no mem (λ s. reset_history house s mem) p.history (λ s r. (reset_untouched house s mem r).1),
      )

  pub skip_comes_back : answer ≡ flat_call f (λ s. skip_told house s) → FlatUnmoved f answer
  skip_comes_back p = comes_back f (λ (s : ResamplerState). skip_told house s) p no (λ s r. skip_untouched house s r)

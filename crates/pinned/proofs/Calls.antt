-- A call with a state that has a rate, and slices that are long enough for it: only the input and the room decide. Assumes nothing.
use mathlib.Core.Path.{◌≡◌}
use mathlib.Core.Bool.{◌||◌}
use Prim.Native.Nat.{ℕ, ◌≤◌, ◌<◌}
use native.Mathlib.Omega.{arith}
use borrow.Author.Tests.{le-ltb, ne_eqb}
use lib.Dec.{eqb, ltb}
use Rattle.quality.specs.declared.QualityMapping.{QualityMapping}
use Rattle.state.specs.State.{setting_in}
use Rattle.state.specs.declared.ResamplerState.{ResamplerState}
use Rattle.judge.specs.Refusals.{max_call}
use Rattle.judge.specs.Verdicts.{accept, refuse_if, process_verdict}
use Rattle.judge.specs.declared.Refusal.TheVariants.{EmptyInput, TooLong}
use Rattle.judge.proofs.Judged.{ProcessAccepted}

module _ (row : QualityMapping) (s : ResamplerState) (memLen coefsLen : ℕ) (fits : ProcessAccepted row s memLen coefsLen) where
  -- the two tests that are left
  pub by_input : (inn room : ℕ) → process_verdict row s memLen coefsLen inn room
      ≡ refuse_if (eqb inn 0) EmptyInput (refuse_if (ltb max_call inn || ltb max_call room) TooLong accept)
  unfolding process_verdict
  by_input inn room =
      rw (
        fits.belongs,
        ne_eqb s.source 0 fits.has_rate,
        le-ltb memLen s.mem_alloc_size fits.history,
        le-ltb coefsLen (setting_in s).coefs fits.coefficients,
      )

  -- some input, and neither it nor the room longer than a call takes
  pub call_accepted : (inn room : ℕ) → 0 < inn → inn ≤ max_call → room ≤ max_call → process_verdict row s memLen coefsLen inn room ≡ accept
  call_accepted inn room some i r = rw (by_input inn room, ne_eqb inn 0 (λ z. omega arith), le-ltb max_call inn i, le-ltb max_call room r)

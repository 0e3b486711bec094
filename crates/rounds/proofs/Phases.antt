-- What a phase below den asks of the kernel: it reads within the coefficients that the setting counts. And an output from
-- its phase and the history from some position on. Assumes nothing.
use mathlib.Core.Path.{◌≡◌, refl, sym, ap, ◌∙◌}
use mathlib.Core.List.{List}
use Prim.Native.Nat.{ℕ, ◌+◌, ◌-◌, ◌≤◌, ◌<◌}
use native.Mathlib.Nat.{mul-le-mul_left, mul-le-mul_right, le_of_lt, div-le_of_le-mul}
use native.Mathlib.Omega.{arith}
use lib.ListN.{drop}
use lib.Seq.{drop-drop}
use lib.Ieee.{Float}
use Rattle.timeline.specs.Numbers.{Place}
use Rattle.timeline.specs.Samples.{output}
use Rattle.kernel.specs.Step.{step_of, Reaches}
use Rattle.kernel.specs.declared.Phase.{Phase}
use Rattle.kernel.proofs.Local.{step_window}
use Rattle.rates.specs.Rated.{rate_with}
use Rattle.rates.specs.Setting.{coefficients_of}
use Rattle.rates.specs.declared.Kernel.{Kernel}
use Rattle.rates.specs.declared.Kernel.TheVariants.{Unset, Direct, Interpolated}
use Rattle.rates.specs.declared.Setting.{Setting}
use Rattle.rounds.specs.Output.{phase_by, phase_of, weigh_of}
use Rattle.rounds.specs.Rounds.{Playable}

-- by the kernel
reaches_by : (k : Kernel) (n oversample den phase : ℕ) {size : ℕ} → (k ≡ Unset → ⊥) → 0 < n → phase < den
    → coefficients_of k n oversample den ≤ size → Reaches (phase_by k oversample den phase) n oversample size
unfolding phase_by coefficients_of
reaches_by Unset n oversample den phase set some h t = absurd (set refl)
reaches_by Direct n oversample den phase set some h t = omega (arith, mul-le-mul_left {m = phase + 1} {n = den} n (omega arith))
reaches_by Interpolated n oversample den phase set some h t = (
  t,
  omega (arith, mul-le-mul_right {m = 1} {n = n} oversample (omega arith)),
  div-le_of_le-mul den (mul-le-mul_right oversample (le_of_lt h)),
)

pub reaches : {s : Setting} {phase : ℕ} {size : ℕ} → Playable s → phase < s.den → s.coefs ≤ size
    → Reaches (phase_of s phase) s.filt_len s.oversample size
reaches {s} {phase} g h t =
    reaches_by s.kernel s.filt_len s.oversample s.den phase g.kernel_set g.n_some h (rw (← g.count) t)

-- the window may be lent with all of the history behind it
pub output_here : (s : Setting) (q : Place) (coefs mem : List Float) {phase : Phase} {y : Float} → phase ≡ phase_of s q.phase
    → y ≡ step_of phase s.filt_len s.oversample coefs (drop q.position mem) → y ≡ output (weigh_of s coefs) (rate_with s 0) mem q
output_here s q coefs mem {phase} e h =
    let n : ℕ = s.filt_len in
    h
    ∙ ap (λ (p : Phase). step_of p n s.oversample coefs (drop q.position mem)) e
    ∙ sym (step_window (phase_of s q.phase) n s.oversample coefs (drop q.position mem))

-- and be counted from an earlier position
pub output_from : (s : Setting) (q : Place) (at : ℕ) (coefs mem : List Float) {phase : Phase} {y : Float} → at ≤ q.position → phase ≡ phase_of s q.phase
    → y ≡ step_of phase s.filt_len s.oversample coefs (drop (q.position - at) (drop at mem)) → y ≡ output (weigh_of s coefs) (rate_with s 0) mem q
output_from s q at coefs mem {phase} l e h =
    let from : at + (q.position - at) ≡ q.position = omega arith in
    output_here s q coefs mem e
    (h
    ∙ ap (step_of phase s.filt_len s.oversample coefs) (drop-drop (q.position - at) at mem ∙ ap (λ (k : ℕ). drop k mem) from))

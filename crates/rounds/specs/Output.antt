-- Document 01, "One output, one call": the phase of an output, and its weighted sum over the window. Assumes nothing.
use Rattle.std.specs.Prelude.{ℕ, ◌*◌, ◌/◌, ◌%◌, List, Float}
use Rattle.math.specs.Numerals.{as_f32}
use Rattle.math.specs.Operators.{◌/ᶠ◌}
use Rattle.kernel.specs.Step.{step_of}
use Rattle.kernel.specs.declared.Phase.{Phase}
use Rattle.kernel.specs.declared.Phase.TheVariants as phases
use Rattle.rates.specs.declared.Kernel.{Kernel}
use Rattle.rates.specs.declared.Kernel.TheVariants.{Unset, Direct, Interpolated}
use Rattle.rates.specs.declared.Setting.{Setting}

-- the phase that a number stands for: the row of that number; for the interpolated kernel the quotient of phase*oversample by den as the offset,
-- with what that division leaves, as an f32, over den as another. (Without a kernel no output is made.)
unfoldable pub phase_by : Kernel → ℕ → ℕ → ℕ → Phase
phase_by Unset oversample den phase = phases.Direct phase
phase_by Direct oversample den phase = phases.Direct phase
phase_by Interpolated oversample den phase =
    phases.Interpolated (phase * oversample / den) (as_f32 (phase * oversample % den) /ᶠ as_f32 den)

-- the same, by the numbers of a setting
abbrev pub phase_of : Setting → ℕ → Phase
phase_of s phase = phase_by s.kernel s.oversample s.den phase

-- one output: the kernel's step over a window of n samples
abbrev pub weigh_of : Setting → List Float → ℕ → List Float → Float
weigh_of s coefs phase window = step_of (phase_of s phase) s.filt_len s.oversample coefs window

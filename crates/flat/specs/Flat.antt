-- The flat twins: a state, what a call tells of it, a closed total and sizes, in numbers that cross to C. Assumes nothing.
use Rattle.std.specs.Prelude.{ℕ, Bool, cond, eqb, leb}
use Rattle.rates.specs.declared.Kernel.{Kernel}
use Rattle.rates.specs.declared.Kernel.TheVariants.{Unset, Direct, Interpolated}
use Rattle.state.specs.Belongs.{kernel_number}
use Rattle.state.specs.declared.ResamplerState.{ResamplerState}
use Rattle.judge.specs.Refusals.{refusal_number}
use Rattle.judge.specs.declared.Refusal.TheVariants.{Rate, State}
use Rattle.resampler.specs.Answers.{Told}
use Rattle.recording.specs.Totals.{TotalTold}
use Rattle.flat.specs.declared.FlatState.{FlatState}
use Rattle.flat.specs.declared.FlatAnswer.{FlatAnswer}
use Rattle.flat.specs.declared.FlatTotal.{FlatTotal}
use Rattle.flat.specs.declared.FlatSizes.{FlatSizes}

-- ---- a state

-- the kernel that a number stands for; the highest is 2
abbrev pub kernel_at : ℕ → Kernel
kernel_at number = cond (eqb number 0) Unset (cond (eqb number 1) Direct Interpolated)

-- a state's numbers
unfoldable pub flat_of : ResamplerState → FlatState
flat_of s =
    record {
      target = s.target;
      source = s.source;
      num = s.num;
      den = s.den;
      filt_len = s.filt_len;
      mem_alloc_size = s.mem_alloc_size;
      buffer_size = s.buffer_size;
      int_advance = s.int_advance;
      frac_advance = s.frac_advance;
      cutoff = s.cutoff;
      oversample = s.oversample;
      started = s.started;
      kernel = kernel_number s.kernel;
      last_sample = s.last_sample;
      samp_frac_num = s.samp_frac_num;
      magic_samples = s.magic_samples;
    }

-- the state that has these numbers
unfoldable pub state_of : FlatState → ResamplerState
state_of f =
    record {
      target = f.target;
      source = f.source;
      num = f.num;
      den = f.den;
      filt_len = f.filt_len;
      mem_alloc_size = f.mem_alloc_size;
      buffer_size = f.buffer_size;
      int_advance = f.int_advance;
      frac_advance = f.frac_advance;
      cutoff = f.cutoff;
      oversample = f.oversample;
      started = f.started;
      kernel = kernel_at f.kernel;
      last_sample = f.last_sample;
      samp_frac_num = f.samp_frac_num;
      magic_samples = f.magic_samples;
    }

-- whether some state has these numbers: no kernel has a number above 2
abbrev pub is_state : FlatState → Bool
is_state f = leb f.kernel 2

-- what is said of the state that has these numbers; where none has them, `otherwise`
abbrev pub by_state : {A : Type 0} → FlatState → A → (ResamplerState → A) → A
by_state f otherwise said = cond (is_state f) (said (state_of f)) otherwise

-- ---- an answer

-- what a call tells, in numbers
abbrev pub flat_told : Told → FlatAnswer
flat_told t = record { refusal = t.number; consumed = t.consumed; written = t.written; state = flat_of t.state }

-- numbers that no state has get refusal 7, counts of zero, and come back
abbrev pub no_state : FlatState → FlatAnswer
no_state f = record { refusal = refusal_number State; consumed = 0; written = 0; state = f }

-- what a call on a flat state tells
abbrev pub flat_call : FlatState → (ResamplerState → Told) → FlatAnswer
flat_call f call = by_state f (no_state f) (λ s. flat_told (call s))

-- ---- a closed total

-- what too many samples get: no number of document 01
abbrev pub too_many_number : ℕ
too_many_number = 100

-- a total in numbers: 0 as refusal where it is the answer
abbrev pub flat_total : TotalTold → FlatTotal
flat_total t = record { refusal = cond t.counted 0 (cond (eqb t.number 0) too_many_number t.number); total = t.total }

-- ---- sizes

-- refusal 1, and none
abbrev pub no_sizes : FlatSizes
no_sizes = record { refusal = refusal_number Rate; history = 0; coefficients = 0 }

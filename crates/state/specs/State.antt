-- Document 01, "Refusal numbers": the fresh state and the one whose numbers are all 0; "Setting a rate": the setting that a state holds.
-- Assumes nothing.
use Rattle.std.specs.Prelude.{ℕ}
use Rattle.math.specs.Numerals.{nought, as_f32}
use Rattle.sizes.specs.Sizes.{buffer_entries}
use Rattle.rates.specs.Setting.{coefficients_of}
use Rattle.rates.specs.declared.Kernel.TheVariants.{Unset}
use Rattle.rates.specs.declared.Setting.{Setting}
use Rattle.state.specs.declared.ResamplerState.{ResamplerState}

-- the state of a target rate before any source rate: a ratio of 0 over 1, a cutoff of 1.0 and the one buffer size; nothing else is set
unfoldable pub fresh_state : ℕ → ResamplerState
fresh_state target =
    record {
      target = target;
      source = 0;
      num = 0;
      den = 1;
      filt_len = 0;
      mem_alloc_size = 0;
      buffer_size = buffer_entries;
      int_advance = 0;
      frac_advance = 0;
      cutoff = as_f32 1;
      oversample = 0;
      started = 0;
      kernel = Unset;
      last_sample = 0;
      samp_frac_num = 0;
      magic_samples = 0;
    }

-- the state whose numbers are all 0, which a refused new state is
unfoldable pub zero_state : ResamplerState
zero_state =
    record {
      target = 0;
      source = 0;
      num = 0;
      den = 0;
      filt_len = 0;
      mem_alloc_size = 0;
      buffer_size = 0;
      int_advance = 0;
      frac_advance = 0;
      cutoff = nought;
      oversample = 0;
      started = 0;
      kernel = Unset;
      last_sample = 0;
      samp_frac_num = 0;
      magic_samples = 0;
    }

-- the setting that a state holds, with as many coefficients as its kernel has
abbrev pub setting_in : ResamplerState → Setting
setting_in s =
    record {
      num = s.num;
      den = s.den;
      int_advance = s.int_advance;
      frac_advance = s.frac_advance;
      filt_len = s.filt_len;
      oversample = s.oversample;
      coefs = coefficients_of s.kernel s.filt_len s.oversample s.den;
      cutoff = s.cutoff;
      kernel = s.kernel;
    }

-- the state with other numbers in all that moves from call to call
abbrev pub moved_to : ResamplerState → ℕ → ℕ → ℕ → ℕ → ResamplerState
moved_to s started position phase magic =
    record {
      target = s.target;
      source = s.source;
      num = s.num;
      den = s.den;
      filt_len = s.filt_len;
      mem_alloc_size = s.mem_alloc_size;
      buffer_size = s.buffer_size;
      int_advance = s.int_advance;
      frac_advance = s.frac_advance;
      cutoff = s.cutoff;
      oversample = s.oversample;
      started = started;
      kernel = s.kernel;
      last_sample = position;
      samp_frac_num = phase;
      magic_samples = magic;
    }

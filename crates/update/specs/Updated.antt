-- Document 01, "Setting a rate", from "The old phase" on: the state, the history and the coefficients once a rate is set. `setting` is what the
-- new rates give, s the state before.
-- Assumes nothing.
use Rattle.std.specs.Prelude.{ℕ, ◌*◌, ◌-◌, ◌/◌, min, List, Float}
use Rattle.std.proofs.Math.Seq.{paste}
use Rattle.rates.specs.declared.Setting.{Setting}
use Rattle.filter.specs.Settings.{table_of}
use Rattle.reshape.specs.Reshaped.{reshaped_magic, reshaped_history}
use Rattle.reshape.specs.declared.Change.{Change}
use Rattle.state.specs.declared.ResamplerState.{ResamplerState}
use Rattle.judge.specs.Verdicts.{history_after}

-- the phase v is carried over to the new den, rounded down, and stays below it
abbrev pub phase_after : ℕ → ℕ → ℕ → ℕ
phase_after v den oldden = min (v * den / oldden) (den - 1)

-- the position becomes n/2, whatever the state was
abbrev pub position_after : ResamplerState → ℕ → ℕ
position_after s n = n / 2

-- the change as the history sees it; what is used of it may grow
abbrev pub change_of : ResamplerState → Setting → Change
change_of s setting =
    record {
      started = s.started;
      old_alloc_size = s.mem_alloc_size;
      mem_alloc_size = history_after s setting;
      old_length = s.filt_len;
      filt_len = setting.filt_len;
      magic_samples = s.magic_samples;
    }

-- the state with a setting's numbers, for these alloc and magic samples
unfoldable pub with_setting : ResamplerState → ℕ → Setting → ℕ → ℕ → ResamplerState
with_setting s source setting alloc magic =
    record {
      target = s.target;
      source = source;
      num = setting.num;
      den = setting.den;
      filt_len = setting.filt_len;
      mem_alloc_size = alloc;
      buffer_size = s.buffer_size;
      int_advance = setting.int_advance;
      frac_advance = setting.frac_advance;
      cutoff = setting.cutoff;
      oversample = setting.oversample;
      started = s.started;
      kernel = setting.kernel;
      last_sample = position_after s setting.filt_len;
      samp_frac_num = phase_after s.samp_frac_num setting.den s.den;
      magic_samples = magic;
    }

-- the state after the change to `source`
abbrev pub updated_state : ResamplerState → ℕ → Setting → ResamplerState
updated_state s source setting = with_setting s source setting (history_after s setting) (reshaped_magic (change_of s setting))

-- the history after it
abbrev pub updated_history : ResamplerState → Setting → List Float → List Float
updated_history s setting mem = reshaped_history mem (change_of s setting)

-- the coefficients after it: the table that the setting has, and past it what the lent slice held
abbrev pub updated_coefficients : Setting → List Float → List Float
updated_coefficients setting coefs = paste coefs 0 (table_of setting) setting.coefs

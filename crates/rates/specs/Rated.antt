-- Document 01, "One output, one call": a setting as the rate that positions and counts are told in, and the closed totals of a ratio.
-- Assumes nothing.
use Rattle.std.specs.Prelude.{ℕ, ◌*◌}
use Rattle.ratio.specs.declared.Ratio.{Ratio}
use Rattle.timeline.specs.Numbers.{Rate}
use Rattle.timeline.specs.Laws.{upwards}
use Rattle.rates.specs.declared.Setting.{Setting}

-- a setting's ratio and filter length, with a history of `alloc` samples
abbrev pub rate_with : Setting → ℕ → Rate
rate_with s alloc = record { num = s.num; den = s.den; n = s.filt_len; alloc = alloc }

-- how many outputs a closed recording of M samples has, at a ratio of num over den: M*den/num rounded up
abbrev pub closed_total : Ratio → ℕ → ℕ
closed_total ratio M = upwards (M * ratio.den) ratio.num

-- Document 01, "Setting a rate" and "Coefficients": the table that a setting has, and the coordinates of its entries. Assumes nothing.
use Rattle.std.specs.Prelude.{◌≡◌, List, [], length, get_or, ℕ, ◌/◌, ◌%◌, ◌^◌, ◌≤◌, ◌<◌, Float}
use Rattle.std.specs.Float.{nan}
use Rattle.sinc.specs.Sinc.{sinc_at}
use Rattle.rates.specs.Setting.{coefficients_of}
use Rattle.rates.specs.declared.Kernel.{Kernel}
use Rattle.rates.specs.declared.Kernel.TheVariants.{Unset, Direct, Interpolated}
use Rattle.rates.specs.declared.Setting.{Setting}
use Rattle.filter.specs.Tables.{direct_x, interpolated_x, direct_table, interpolated_table}

-- the coefficients of a kernel; without one none
unfoldable pub kernel_table : Kernel → Float → ℕ → ℕ → ℕ → List Float
kernel_table Unset cutoff n oversample den = []
kernel_table Direct cutoff n oversample den = direct_table cutoff n den
kernel_table Interpolated cutoff n oversample den = interpolated_table cutoff n oversample

-- the coefficients of a setting
unfoldable pub table_of : Setting → List Float
unfolding kernel_table
table_of s = kernel_table s.kernel s.cutoff s.filt_len s.oversample s.den

-- the coordinate of entry k of a kernel's table; without a kernel there is none, for which a NaN stands
unfoldable pub kernel_x : Kernel → ℕ → ℕ → ℕ → ℕ → Float
kernel_x Unset n oversample den k = nan
kernel_x Direct n oversample den k = direct_x n den (k / n) (k % n)
kernel_x Interpolated n oversample den k = interpolated_x n oversample k

-- the coordinate of entry k of a setting's table
unfoldable pub coordinate_of : Setting → ℕ → Float
unfolding kernel_x
coordinate_of s k = kernel_x s.kernel s.filt_len s.oversample s.den k

-- entry k of a setting's table: the coefficient at its coordinate
unfoldable pub entry_of : Setting → ℕ → Float
unfolding coordinate_of
entry_of s k = sinc_at s.cutoff (coordinate_of s k) s.filt_len

-- what its table asks of a setting, and of the length of the slice that it is written to; any sane row and two rates in limits give such a setting, as `proofs/Settings.antt` proves
pub record SettingFits (s : Setting) (length : ℕ) : Type 0 where
  pub n_some : 0 < s.filt_len
  pub den_some : 0 < s.den
  pub oversample_some : 0 < s.oversample
  pub count : s.coefs ≡ coefficients_of s.kernel s.filt_len s.oversample s.den
  pub exact : s.coefs ≤ 2 ^ 24
  pub room : s.coefs ≤ length

-- what entry k of the table asks where those below it are written to coefs already
pub record NextFits (s : Setting) (k : ℕ) (coefs : List Float) : Type 0 where
  pub room : s.coefs ≤ length coefs
  pub more : k < s.coefs
  pub written : (i : ℕ) → i < k → get_or coefs i nan ≡ entry_of s i

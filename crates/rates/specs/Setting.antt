-- Document 01, "Setting a rate": everything that two rates give, over any quality row.
-- Assumes nothing.
use Rattle.std.specs.Prelude.{ℕ, zero, suc, ◌+◌, ◌*◌, ◌/◌, ◌%◌, ◌^◌, max, cond, ◌&&◌, leb, ltb, Float}
use Rattle.math.specs.Numerals.{as_f32}
use Rattle.math.specs.Operators.{◌*ᶠ◌, ◌/ᶠ◌}
use Rattle.ratio.specs.Lowest.{lowest}
use Rattle.quality.specs.declared.QualityMapping.{QualityMapping}
use Rattle.rates.specs.declared.Kernel.{Kernel}
use Rattle.rates.specs.declared.Kernel.TheVariants.{Unset, Direct, Interpolated}
use Rattle.rates.specs.declared.Setting.{Setting}

-- the cutoff: if num > den, (bandwidth down * den) / num in f32, else the bandwidth up
unfoldable pub cutoff_of : QualityMapping → ℕ → ℕ → Float
cutoff_of row num den = cond (ltb den num) (row.downsample_bandwidth *ᶠ as_f32 den /ᶠ as_f32 num) row.upsample_bandwidth

-- x rounded up to a multiple of 8
abbrev pub up_to8 : ℕ → ℕ
up_to8 x = (x + 7) / 8 * 8

-- n: if num > den, the floor of base*num/den rounded up to a multiple of 8, else the base length
unfoldable pub length_of : QualityMapping → ℕ → ℕ → ℕ
length_of row num den = cond (ltb den num) (up_to8 (row.base_length * num / den)) row.base_length

-- m, halved where 2^x * den < num
abbrev pub halved_at : ℕ → ℕ → ℕ → ℕ → ℕ
halved_at num den x m = cond (ltb (2 ^ x * den) num) (m / 2) m

-- m, halved so once for each x of 1..k
unfoldable pub halved : ℕ → ℕ → ℕ → ℕ → ℕ
halved num den zero m = m
halved num den (suc k) m = halved_at num den (suc k) (halved num den k m)

-- the oversample: if num > den, the row's, halved for each x of 1..4 and never below 1, else the row's
unfoldable pub oversample_of : QualityMapping → ℕ → ℕ → ℕ
unfolding halved
oversample_of row num den = cond (ltb den num) (max 1 (halved num den 4 row.oversample)) row.oversample

-- the kernel: the direct one where its table is no longer than the other's, and n at most floor(536870911/den)
unfoldable pub kernel_of : ℕ → ℕ → ℕ → Kernel
kernel_of n oversample den =
    cond (leb (n * den) (n * oversample + 8) && leb n (536870911 / den)) Direct Interpolated

-- how many coefficients a kernel has: n*den if direct, else n*oversample + 8; without a kernel none
unfoldable pub coefficients_of : Kernel → ℕ → ℕ → ℕ → ℕ
coefficients_of Unset n oversample den = 0
coefficients_of Direct n oversample den = n * den
coefficients_of Interpolated n oversample den = n * oversample + 8

-- the setting of a ratio. What an output adds to the position is kept in two parts: the whole samples, and the den-ths over
unfoldable pub setting_at : QualityMapping → ℕ → ℕ → Setting
setting_at row num den =
    let n = length_of row num den in
    let oversample = oversample_of row num den in
    let kernel = kernel_of n oversample den in
    record {
      num = num;
      den = den;
      int_advance = num / den;
      frac_advance = num % den;
      filt_len = n;
      oversample = oversample;
      coefs = coefficients_of kernel n oversample den;
      cutoff = cutoff_of row num den;
      kernel = kernel;
    }

-- the setting of two rates: that of their ratio, without a common factor
unfoldable pub setting_of : QualityMapping → ℕ → ℕ → Setting
unfolding setting_at
setting_of row source target = let ratio = lowest source target in setting_at row ratio.num ratio.den

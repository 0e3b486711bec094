-- A setting's table, its count and its coordinates by the setting's kernel, and that each sane row and two rates in limits give a setting whose table can be written. Assumes nothing.
use mathlib.Core.Path.{◌≡◌, refl, sym, ap, ◌∙◌}
use mathlib.Core.Bool.{false}
use mathlib.Core.List.{List}
use Prim.Native.Nat.{ℕ, ◌*◌, ◌+◌, ◌/◌, ◌%◌, ◌^◌, ◌≤◌, ◌<◌}
use native.Mathlib.Nat.{le_trans, lt_of_lt_of_le, not-suc-le-zero, div-le_self, mod-le, mul_comm, le-mul_of_pos_right}
use native.Mathlib.Omega.{arith}
use lib.Dec.{lit≤, lit<}
use lib.ListN.{length, get_or}
use lib.Ieee.{Float, nan, is_nan}
use Rattle.sinc.specs.Sinc.{sinc_at}
use Rattle.sizes.specs.Sizes.{InLimits}
use Rattle.quality.specs.Quality.{Sane}
use Rattle.rates.specs.Setting.{coefficients_of, setting_at, setting_of}
use Rattle.quality.specs.declared.QualityMapping.{QualityMapping}
use Rattle.rates.specs.declared.Kernel.{Kernel}
use Rattle.rates.specs.declared.Kernel.TheVariants.{Unset, Direct, Interpolated}
use Rattle.rates.specs.declared.Setting.{Setting}
use Rattle.rates.proofs.Limits.{limits}
use Rattle.filter.specs.Tables.{direct_entry, interpolated_entry, entries, direct_table, interpolated_table}
use Rattle.filter.specs.Settings.{kernel_table, table_of, kernel_x, coordinate_of, entry_of, SettingFits}
use Rattle.filter.proofs.Entries.{length_entries, get_or_entries}
use Rattle.filter.proofs.Coordinates.{direct_real, interpolated_real}

length_kernel : (k : Kernel) (cutoff : Float) (n oversample den : ℕ) → length (kernel_table k cutoff n oversample den) ≡ coefficients_of k n oversample den
unfolding kernel_table coefficients_of direct_table interpolated_table
length_kernel Unset cutoff n oversample den = refl
length_kernel Direct cutoff n oversample den = length_entries _ (n * den)
length_kernel Interpolated cutoff n oversample den = length_entries _ (n * oversample + 8)

by_coordinate : (k : Kernel) (cutoff : Float) (n oversample den : ℕ)
    → kernel_table k cutoff n oversample den ≡ entries (λ (i : ℕ). sinc_at cutoff (kernel_x k n oversample den i) n) (coefficients_of k n oversample den)
unfolding kernel_table kernel_x coefficients_of direct_table interpolated_table direct_entry interpolated_entry entries
by_coordinate Unset cutoff n oversample den = refl
by_coordinate Direct cutoff n oversample den = refl
by_coordinate Interpolated cutoff n oversample den = refl

module _ (s : Setting) (len : ℕ) (h : SettingFits s len) where
  -- ---- the table has as many entries as the setting says
  pub length_table : length (table_of s) ≡ s.coefs
  unfolding table_of
  length_table = length_kernel s.kernel s.cutoff s.filt_len s.oversample s.den ∙ sym h.count

  -- ---- each is the coefficient at its coordinate
  pub table_by_coordinate : table_of s ≡ entries (λ (k : ℕ). sinc_at s.cutoff (coordinate_of s k) s.filt_len) s.coefs
  unfolding table_of coordinate_of
  table_by_coordinate = by_coordinate s.kernel s.cutoff s.filt_len s.oversample s.den ∙ ap (entries _) (sym h.count)

  pub get_or_table : (k : ℕ) → k < s.coefs → get_or (table_of s) k nan ≡ entry_of s k
  unfolding entry_of
  get_or_table k l = ap (λ (t : List Float). get_or t k nan) table_by_coordinate ∙ get_or_entries _ s.coefs k nan l

  -- ---- its numbers are exact in f32: neither n nor m is 0, so both are at most their product
  exact_numbers : (m : ℕ) → 0 < m → s.filt_len * m ≤ s.coefs → (s.filt_len ≤ 2 ^ 24) × (m ≤ 2 ^ 24)
  exact_numbers m some p =
      let n = s.filt_len in
      let e = h.exact in
      (omega (arith, le-mul_of_pos_right n some), omega (arith, le-mul_of_pos_right m h.n_some, mul_comm n m))

  count_at : (k : Kernel) → s.kernel ≡ k → s.coefs ≡ coefficients_of k s.filt_len s.oversample s.den
  count_at k e = rw e at h.count

  pub direct_exact : s.kernel ≡ Direct → (s.filt_len ≤ 2 ^ 24) × (s.den ≤ 2 ^ 24)
  unfolding coefficients_of
  direct_exact e = exact_numbers s.den h.den_some (omega (arith, count_at Direct e))

  -- a row is no longer than the direct table
  pub row_to : s.kernel ≡ Direct → s.filt_len ≤ s.coefs
  unfolding coefficients_of
  row_to e = omega (arith, count_at Direct e, le-mul_of_pos_right s.filt_len h.den_some)

  pub interpolated_exact : s.kernel ≡ Interpolated → (s.filt_len ≤ 2 ^ 24) × (s.oversample ≤ 2 ^ 24)
  unfolding coefficients_of
  interpolated_exact e = exact_numbers s.oversample h.oversample_some (omega (arith, count_at Interpolated e))

  -- ---- no coordinate is a NaN
  real_with : (k : Kernel) → s.kernel ≡ k → (i : ℕ) → i < s.coefs → is_nan (kernel_x k s.filt_len s.oversample s.den i) ≡ false
  unfolding kernel_x coefficients_of
  real_with Unset e i l = absurd (not-suc-le-zero (rw (count_at Unset e) at l))
  real_with Direct e i l =
      let n = s.filt_len in
      let f = direct_exact e in
      let i-to : i ≤ 2 ^ 24 = omega (arith, h.exact) in
      direct_real n s.den (i / n) (i % n) h.den_some f.0 f.1 (le_trans (div-le_self i n) i-to) (le_trans (mod-le i n) i-to)
  real_with Interpolated e i l =
      let f = interpolated_exact e in
      interpolated_real s.filt_len s.oversample i h.oversample_some f.0 f.1 (omega (arith, h.exact))

  pub coordinate_real : (k : ℕ) → k < s.coefs → is_nan (coordinate_of s k) ≡ false
  unfolding coordinate_of
  coordinate_real k l = real_with s.kernel refl k l

-- ---- what any sane row and two rates in limits give
pub setting_fits : (row : QualityMapping) → Sane row → (source target : ℕ) → InLimits source → InLimits target
    → (len : ℕ) → (setting_of row source target).coefs ≤ len → SettingFits (setting_of row source target) len
unfolding setting_of setting_at
setting_fits row sane source target s t len room =
    let l = limits row sane source target s t in record {
      n_some = lt_of_lt_of_le (lt_of_lt_of_le (lit< tt) sane.base_from) l.n_from;
      den_some = l.terms.den_from;
      oversample_some = l.oversample_from;
      count = refl;
      exact = le_trans l.coefs_to (lit≤ tt);
      room = room;
    }

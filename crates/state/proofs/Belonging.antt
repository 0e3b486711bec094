-- What `belongs_together` says, in both directions: a state belongs together exactly where it is fresh with a target in limits, or rated. Assumes nothing.
use mathlib.Core.Path.{◌≡◌, refl, sym, ap, subst}
use mathlib.Core.Bool.{true, false, not, ◌&&◌, ◌||◌}
use mathlib.Core.Logic.{◌⊎◌, inl, inr}
use Prim.Native.Nat.{ℕ, ◌+◌, ◌*◌, ◌≤◌, ◌<◌}
use native.Mathlib.Omega.{arith}
use borrow.Author.Tests.{eqb-true, eqb-false, leb-true, ltb-true, eq-eqb, ne_eqb, le-leb, lt-ltb}
use lib.Dec.{eqb}
use lib.Ieee.{is_nan, of_int}
use Rattle.math.specs.Numerals.{as_f32}
use Rattle.sizes.specs.Sizes.{InLimits, in_limits, buffer_entries, history_needed, max_history}
use Rattle.sizes.proofs.Tests.{test_passed, test_passes}
use Rattle.quality.specs.Quality.{Sane}
use Rattle.quality.specs.declared.QualityMapping.{QualityMapping}
use Rattle.rates.specs.Setting.{coefficients_of, setting_at, setting_of}
use Rattle.rates.specs.Limits.{Limits}
use Rattle.rates.specs.declared.Kernel.{Kernel}
use Rattle.rates.specs.declared.Kernel.TheVariants.{Unset, Direct, Interpolated}
use Rattle.rates.specs.declared.Setting.{Setting}
use Rattle.rates.proofs.Limits.{limits}
use Rattle.state.specs.State.{fresh_state, zero_state, setting_in}
use Rattle.state.specs.Belongs.{all_hold, kernel_number, setting_tests, position_bound, fresh_tests, place_tests, rated_tests, belongs_together}
use Rattle.state.specs.declared.ResamplerState.{ResamplerState}
use Rattle.state.proofs.Tests.{second, by_test, first_holds, first_fails, all_at}
use Rattle.state.proofs.Bits.{same_equal, same_self}

-- ---- the two kinds of state that belong together
pub record Fresh (s : ResamplerState) : Type 0 where
  pub is : s ≡ fresh_state s.target
  pub target : InLimits s.target

pub record Rated (row : QualityMapping) (s : ResamplerState) : Type 0 where
  pub source : InLimits s.source
  pub target : InLimits s.target
  pub setting : setting_in s ≡ setting_of row s.source s.target
  pub buffer : s.buffer_size ≡ buffer_entries
  pub alloc_from : history_needed s.filt_len ≤ s.mem_alloc_size
  pub alloc_to : s.mem_alloc_size ≤ max_history
  pub phase : s.samp_frac_num < s.den
  pub position : s.last_sample ≤ position_bound s.filt_len s.magic_samples
  pub magic : history_needed (s.filt_len + 2 * s.magic_samples) ≤ s.mem_alloc_size
  pub started : s.started ≤ 1
  pub unstarted : s.started ≡ 0 → s.magic_samples ≡ 0

-- ---- the tests of a state with a rate, by the first two
module _ (row : QualityMapping) (s : ResamplerState) where
  pub in_limits_rest : in_limits s.source && in_limits s.target ≡ true
      → all_hold (rated_tests row s) ≡ eqb s.buffer_size buffer_entries && all_hold (setting_tests s (setting_of row s.source s.target)) && all_hold (place_tests s)
  unfolding rated_tests
  in_limits_rest e =
      first_holds (in_limits s.source && in_limits s.target) (eqb s.buffer_size buffer_entries) (all_hold (setting_tests s (setting_of row s.source s.target))) (place_tests s) e

  pub out_of_limits : in_limits s.source && in_limits s.target ≡ false → all_hold (rated_tests row s) ≡ false
  unfolding rated_tests
  out_of_limits e =
      first_fails (in_limits s.source && in_limits s.target) (eqb s.buffer_size buffer_entries) (all_hold (setting_tests s (setting_of row s.source s.target))) (place_tests s) e

-- ---- the setting
equal_kernels : (a b : Kernel) → kernel_number a ≡ kernel_number b → a ≡ b
equal_kernels Unset Unset e = refl
equal_kernels Unset Direct e = absurd (omega arith)
equal_kernels Unset Interpolated e = absurd (omega arith)
equal_kernels Direct Unset e = absurd (omega arith)
equal_kernels Direct Direct e = refl
equal_kernels Direct Interpolated e = absurd (omega arith)
equal_kernels Interpolated Unset e = absurd (omega arith)
equal_kernels Interpolated Direct e = absurd (omega arith)
equal_kernels Interpolated Interpolated e = refl

module _ (s : ResamplerState) (k : Setting) where
  pub has_equal : k.coefs ≡ coefficients_of k.kernel k.filt_len k.oversample k.den → all_hold (setting_tests s k) ≡ true → setting_in s ≡ k
  unfolding setting_tests
  has_equal count e =
      let num = eqb-true s.num k.num (all_at (setting_tests s k) 0 e) in
      let den = eqb-true s.den k.den (all_at (setting_tests s k) 1 e) in
      let int = eqb-true s.int_advance k.int_advance (all_at (setting_tests s k) 2 e) in
      let frac = eqb-true s.frac_advance k.frac_advance (all_at (setting_tests s k) 3 e) in
      let cutoff = same_equal s.cutoff k.cutoff (all_at (setting_tests s k) 4 e) in
      let n = eqb-true s.filt_len k.filt_len (all_at (setting_tests s k) 5 e) in
      let oversample = eqb-true s.oversample k.oversample (all_at (setting_tests s k) 6 e) in
      let kernel = equal_kernels s.kernel k.kernel (eqb-true _ _ (all_at (setting_tests s k) 7 e)) in
      rw (num, den, int, frac, cutoff, n, oversample, kernel, ← count)

own_setting : (s : ResamplerState) → is_nan s.cutoff ≡ false → all_hold (setting_tests s (setting_in s)) ≡ true
unfolding setting_tests
own_setting s real =
    let same : (n : ℕ) → eqb n n ≡ true = λ n. eq-eqb n n refl in
    simp (same, same_self s.cutoff real)

-- ---- a state without a rate
one_real : is_nan (as_f32 1) ≡ false
unfolding is_nan of_int
one_real = refl

-- s with the numbers of another setting
abbrev holding : ResamplerState → Setting → ResamplerState
holding s k =
    record {
      target = s.target;
      source = s.source;
      num = k.num;
      den = k.den;
      filt_len = k.filt_len;
      mem_alloc_size = s.mem_alloc_size;
      buffer_size = s.buffer_size;
      int_advance = k.int_advance;
      frac_advance = k.frac_advance;
      cutoff = k.cutoff;
      oversample = k.oversample;
      started = s.started;
      kernel = k.kernel;
      last_sample = s.last_sample;
      samp_frac_num = s.samp_frac_num;
      magic_samples = s.magic_samples;
    }

module _ (s : ResamplerState) where
  fresh_is : s.source ≡ 0 → all_hold (fresh_tests s) ≡ true → Fresh s
  unfolding fresh_tests fresh_state
  fresh_is source e =
      let k : Setting = setting_in (fresh_state s.target) in
      let is : setting_in s ≡ k = has_equal s k refl (all_at (fresh_tests s) 2 e) in
      let buffer = eqb-true s.buffer_size buffer_entries (all_at (fresh_tests s) 1 e) in
      let alloc = eqb-true s.mem_alloc_size 0 (all_at (fresh_tests s) 3 e) in
      let phase = eqb-true s.samp_frac_num 0 (all_at (fresh_tests s) 4 e) in
      let position = eqb-true s.last_sample 0 (all_at (fresh_tests s) 5 e) in
      let magic = eqb-true s.magic_samples 0 (all_at (fresh_tests s) 6 e) in
      let started = eqb-true s.started 0 (all_at (fresh_tests s) 7 e) in
      record { is = rw (source, buffer, alloc, phase, position, magic, started) (ap (holding (fresh_state s.target)) is); target = test_passed s.target (all_at (fresh_tests s) 0 e) }

pub fresh_state_belongs : (row : QualityMapping) (target : ℕ) → InLimits target → belongs_together row (fresh_state target) ≡ true
unfolding belongs_together fresh_tests fresh_state
fresh_state_belongs row target h = rw (test_passes target h, own_setting (fresh_state target) one_real)

pub fresh_belongs : (row : QualityMapping) (s : ResamplerState) → Fresh s → belongs_together row s ≡ true
fresh_belongs row s f = subst (λ (x : ResamplerState). belongs_together row x ≡ true) (sym f.is) (fresh_state_belongs row s.target f.target)

-- ---- a state with one
module _ (row : QualityMapping) (s : ResamplerState) where
  abbrev given : Setting
  given = setting_of row s.source s.target

  counted : given.coefs ≡ coefficients_of given.kernel given.filt_len given.oversample given.den
  unfolding setting_of setting_at
  counted = refl

  rated_is : all_hold (rated_tests row s) ≡ true → Rated row s
  unfolding rated_tests place_tests
  rated_is e =
      let n = s.filt_len in
      let alloc = s.mem_alloc_size in
      let magic = s.magic_samples in
      record {
        source = test_passed s.source (all_at (rated_tests row s) 0 e);
        target = test_passed s.target (all_at (rated_tests row s) 1 e);
        setting = has_equal s given counted (all_at (rated_tests row s) 3 e);
        buffer = eqb-true s.buffer_size buffer_entries (all_at (rated_tests row s) 2 e);
        alloc_from = leb-true (history_needed n) alloc (all_at (rated_tests row s) 4 e);
        alloc_to = leb-true alloc max_history (all_at (rated_tests row s) 5 e);
        phase = ltb-true s.samp_frac_num s.den (all_at (rated_tests row s) 6 e);
        position = leb-true s.last_sample (position_bound n magic) (all_at (rated_tests row s) 7 e);
        magic = leb-true (history_needed (n + 2 * magic)) alloc (all_at (rated_tests row s) 8 e);
        started = leb-true s.started 1 (all_at (rated_tests row s) 9 e);
        unstarted = λ z. eqb-true magic 0 (second (not (eqb s.started 0)) (eqb magic 0) (ap not (eq-eqb s.started 0 z)) (all_at (rated_tests row s) 10 e));
      }

  unstarted_passes : (s.started ≡ 0 → s.magic_samples ≡ 0) → (not (eqb s.started 0) || eqb s.magic_samples 0) ≡ true
  unstarted_passes h =
      by_test (eqb s.started 0)
      (λ t. rw (t, eq-eqb s.magic_samples 0 (h (eqb-true s.started 0 t))))
      (λ t. rw t)

  place_passes : Rated row s → all_hold (place_tests s) ≡ true
  unfolding place_tests
  place_passes r =
      let n = s.filt_len in
      let alloc = s.mem_alloc_size in
      let magic = s.magic_samples in
      rw (
        le-leb (history_needed n) alloc r.alloc_from,
        le-leb alloc max_history r.alloc_to,
        lt-ltb s.samp_frac_num s.den r.phase,
        le-leb s.last_sample (position_bound n magic) r.position,
        le-leb (history_needed (n + 2 * magic)) alloc r.magic,
        le-leb s.started 1 r.started,
        unstarted_passes r.unstarted,
      )

  -- what holds of its numbers
  pub rated_limits : Sane row → Rated row s → Limits row (setting_in s)
  rated_limits sane r = subst (λ (k : Setting). Limits row k) (sym r.setting) (limits row sane s.source s.target r.source r.target)

  setting_passes : Sane row → Rated row s → all_hold (setting_tests s given) ≡ true
  setting_passes sane r = subst (λ (k : Setting). all_hold (setting_tests s k) ≡ true) r.setting (own_setting s (rated_limits sane r).cutoff_real)

  pub rated_belongs : Sane row → Rated row s → belongs_together row s ≡ true
  unfolding belongs_together
  rated_belongs sane r =
      let limits-pass : in_limits s.source && in_limits s.target ≡ true = rw (test_passes s.source r.source, test_passes s.target r.target) in
      rw (
        ne_eqb s.source 0 (λ z. omega arith),
        in_limits_rest row s limits-pass,
        eq-eqb s.buffer_size buffer_entries r.buffer,
        setting_passes sane r,
        place_passes r,
      )

  -- ---- either
  pub unrated : belongs_together row s ≡ true → s.source ≡ 0 → Fresh s
  unfolding belongs_together
  unrated e z = fresh_is s z (rw (eq-eqb s.source 0 z) at e)

  pub rated : belongs_together row s ≡ true → (s.source ≡ 0 → ⊥) → Rated row s
  unfolding belongs_together
  rated e z = rated_is (rw (ne_eqb s.source 0 z) at e)

  pub belongs_is : belongs_together row s ≡ true → Fresh s ⊎ Rated row s
  belongs_is e =
      by_test (eqb s.source 0)
      (λ t. inl (unrated e (eqb-true s.source 0 t)))
      (λ t. inr (rated e (eqb-false s.source 0 t)))

-- its target is in limits, with a source rate or without
pub belongs_target : (row : QualityMapping) (s : ResamplerState) → belongs_together row s ≡ true → InLimits s.target
belongs_target row s e = elim (belongs_is row s e) [ inl f ↦ f.target | inr r ↦ r.target ]

-- ---- the state whose numbers are all 0
pub zero_refused_lem : (row : QualityMapping) → belongs_together row zero_state ≡ false
unfolding belongs_together fresh_tests zero_state in_limits
zero_refused_lem row = refl

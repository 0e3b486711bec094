-- An accepted change to another rate gives all that it asks for. Assumes nothing.
use mathlib.Core.Path.{◌≡◌, ap}
use mathlib.Core.Logic.{⊎_elim}
use Prim.Native.Nat.{ℕ, ◌+◌, ◌*◌, ◌≤◌, ◌<◌}
use native.Mathlib.Omega.{arith}
use lib.Dec.{eqb, ltb}
use borrow.Author.Tests.{eqb-true, eqb-false, ltb-true, ltb-false}
use Rattle.std.proofs.lemmas.Bool.{cond_both}
use Rattle.sizes.specs.Sizes.{InLimits, buffer_entries, history_needed, max_history}
use Rattle.quality.specs.Quality.{Sane}
use Rattle.quality.specs.declared.QualityMapping.{QualityMapping}
use Rattle.rates.specs.Setting.{setting_of}
use Rattle.rates.specs.Limits.{Limits}
use Rattle.rates.proofs.Limits.{limits}
use Rattle.filter.specs.Settings.{SettingFits}
use Rattle.filter.proofs.Settings.{setting_fits}
use Rattle.reshape.specs.Reshaped.{ChangeFits, reshaped_magic}
use Rattle.reshape.specs.declared.Change.{Change}
use Rattle.state.specs.State.{fresh_state}
use Rattle.state.specs.declared.ResamplerState.{ResamplerState}
use Rattle.state.proofs.Belonging.{Fresh, Rated, belongs_is, rated_limits}
use Rattle.judge.specs.Verdicts.{accept, history_after, rate_verdict}
use Rattle.judge.proofs.Judged.{rate_accepts}
use Rattle.update.specs.Updated.{change_of}

-- what a state that belongs together brings to a change, with a rate or without
pub record Standing (s : ResamplerState) : Type 0 where
  pub target : InLimits s.target
  pub buffer : s.buffer_size ≡ buffer_entries
  pub den : 0 < s.den
  pub alloc_to : s.mem_alloc_size ≤ max_history
  pub started : s.started ≤ 1
  pub unstarted : s.started ≡ 0 → s.magic_samples ≡ 0
  pub filled : (s.started ≡ 0 → ⊥)
      → (0 < s.filt_len) × (history_needed (s.filt_len + 2 * s.magic_samples) ≤ s.mem_alloc_size)

fresh_stands : (s : ResamplerState) → Fresh s → Standing s
unfolding fresh_state
fresh_stands s f =
    let den = ap (λ (t : ResamplerState). t.den) f.is in
    let alloc = ap (λ (t : ResamplerState). t.mem_alloc_size) f.is in
    let started = ap (λ (t : ResamplerState). t.started) f.is in
    record {
      target = f.target;
      buffer = ap (λ (t : ResamplerState). t.buffer_size) f.is;
      den = omega arith;
      alloc_to = omega arith;
      started = omega arith;
      unstarted = λ z. ap (λ (t : ResamplerState). t.magic_samples) f.is;
      filled = λ z. absurd (z started);
    }

rated_stands : (row : QualityMapping) → Sane row → (s : ResamplerState) → Rated row s → Standing s
rated_stands row sane s r =
    let l = rated_limits row s sane r in
    record {
      target = r.target;
      buffer = r.buffer;
      den = l.terms.den_from;
      alloc_to = r.alloc_to;
      started = r.started;
      unstarted = r.unstarted;
      filled = λ z. (omega (arith, l.n_from, sane.base_from), r.magic);
    }

-- the new magic samples, each counted twice, fit beside the new filter
pub magic_fits : (c : Change) → history_needed c.filt_len ≤ c.mem_alloc_size → c.old_alloc_size ≤ c.mem_alloc_size
    → 0 < c.filt_len → (c.started ≡ 0 → c.magic_samples ≡ 0)
    → ((c.started ≡ 0 → ⊥)
    → (0 < c.old_length) × (history_needed (c.old_length + 2 * c.magic_samples) ≤ c.old_alloc_size))
    → history_needed (c.filt_len + 2 * reshaped_magic c) ≤ c.mem_alloc_size
magic_fits c h k some none filled =
    let old = c.old_length in
    let n = c.filt_len in
    let m = c.magic_samples in
    let Fits : ℕ → Type 0 = λ x. history_needed (n + 2 * x) ≤ c.mem_alloc_size in
    cond_both (eqb c.started 0) _ _ Fits
    (λ e. let z = none (eqb-true c.started 0 e) in omega arith)
    (λ e.
    let p = filled (eqb-false c.started 0 e) in
    cond_both (ltb old n) _ _ Fits
    (λ u. cond_both (ltb (old + 2 * m) n) _ _ Fits (λ v. omega arith) (λ v. omega (arith, ltb-false (old + 2 * m) n v)))
    (λ u. cond_both (ltb n old) _ _ Fits (λ v. omega (arith, ltb-true n old v)) (λ v. omega (arith, ltb-false old n u, ltb-false n old v))))

-- what a change of rate asks for
pub record RateReady (row : QualityMapping) (s : ResamplerState) (source mem coefs : ℕ) : Type 0 where
  pub standing : Standing s
  pub source_in : InLimits source
  pub setting : Limits row (setting_of row source s.target)
  pub change : ChangeFits mem (change_of s (setting_of row source s.target))
  pub table : SettingFits (setting_of row source s.target) coefs
  pub alloc_to : history_after s (setting_of row source s.target) ≤ max_history
  pub magic_to : history_needed ((setting_of row source s.target).filt_len + 2 * reshaped_magic (change_of s (setting_of row source s.target)))
      ≤ history_after s (setting_of row source s.target)

pub rate_ready : (row : QualityMapping) → Sane row → (s : ResamplerState) (source mem coefs : ℕ) → rate_verdict row s source mem coefs ≡ accept
    → (s.source ≡ source → ⊥) → RateReady row s source mem coefs
rate_ready row sane s source mem coefs e other =
    let v = rate_accepts row s source mem coefs e in
    let st : Standing s = ⊎_elim (fresh_stands s) (rated_stands row sane s) (belongs_is row s v.belongs) in
    let l = limits row sane source s.target v.source_in st.target in
    let some : 0 < (setting_of row source s.target).filt_len = omega (arith, l.n_from, sane.base_from) in
    let setting = setting_of row source s.target in
    record {
      standing = st;
      source_in = v.source_in;
      setting = l;
      change = record {
        grows = omega arith;
        lent = v.history other;
        holds = omega arith;
        some = some;
        before = λ z. let p = st.filled z in omega arith;
      };
      table = setting_fits row sane source s.target v.source_in st.target coefs (v.coefficients other);
      alloc_to = omega (arith, st.alloc_to, l.history_to);
      magic_to = magic_fits (change_of s setting) (omega arith) (omega arith) some st.unstarted st.filled;
    }

-- Any sane row and any two rates in limits give a setting that rounds can play. Assumes nothing.
use mathlib.Core.Path.{◌≡◌, refl, sym, ◌∙◌}
use mathlib.Core.Bool.{Bool, true, false, cond}
use Prim.Native.Nat.{ℕ}
use native.Mathlib.Omega.{arith}
use lib.Dec.{leb}
use Rattle.sizes.specs.Sizes.{InLimits}
use Rattle.quality.specs.Quality.{Sane}
use Rattle.quality.specs.declared.QualityMapping.{QualityMapping}
use Rattle.rates.specs.Setting.{setting_at, setting_of}
use Rattle.rates.proofs.Limits.{limits}
use Rattle.rates.specs.declared.Kernel.TheVariants.{Unset, Direct, Interpolated}
use Rattle.rounds.specs.Rounds.{Playable}

-- one kernel or the other is one
one_or_other : (direct : Bool) → cond direct Direct Interpolated ≡ Unset → ⊥
one_or_other true e = let z : ◌≡◌ {A = ℕ} 0 1 = cc in omega arith
one_or_other false e = let z : ◌≡◌ {A = ℕ} 0 1 = cc in omega arith

pub setting_playable : {row : QualityMapping} {source target : ℕ} → Sane row → InLimits source → InLimits target
    → Playable (setting_of row source target)
unfolding setting_of setting_at
setting_playable {row} {source} {target} sane hs ht =
    let s = setting_of row source target in
    let l = limits row sane source target hs ht in
    record {
      terms = l.terms;
      int_advance = refl;
      frac_advance = refl;
      n_some = omega arith;
      n_to = omega (arith, l.history_to);
      oversample_to = l.oversample_to;
      kernel_set = λ e. one_or_other (leb s.den s.oversample) (sym l.kernel_is ∙ e);
      count = refl;
    }

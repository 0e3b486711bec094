-- Entry k of a setting's table in the loop that writes it: what it finds written, and that a mirror image among that is the coefficient at its own coordinate.
-- Assumes nothing.
use mathlib.Core.Path.{◌≡◌, sym, ap, ◌∙◌, subst}
use mathlib.Core.List.{List, ◌++◌}
use Prim.Native.Nat.{ℕ, ◌+◌, ◌≤◌, ◌<◌}
use native.Mathlib.Nat.{zero-add}
use native.Mathlib.Omega.{arith}
use lib.ListN.{length, take, drop, set, get_or, get_or-append}
use lib.Seq.{paste, length_paste_head, get_or-take}
use lib.Ieee.{Float, nan}
use Rattle.history.proofs.Pasted.{Pasted, goes_on}
use Rattle.rates.specs.declared.Setting.{Setting}
use Rattle.sinc.specs.Sinc.{MirrorFits}
use Rattle.filter.specs.Settings.{table_of, coordinate_of, entry_of, SettingFits, NextFits}
use Rattle.filter.proofs.Settings.{length_table, get_or_table, coordinate_real}

-- where k entries are pasted, the next one finds them there
get_or_pasted : (s d : List Float) (k i : ℕ) → k ≤ length s → i < k → get_or (paste d 0 s k) i nan ≡ get_or s i nan
get_or_pasted s d k i long h =
    get_or-append (take 0 d ++ take k s) (drop (0 + k) d) nan i (omega (arith, length_paste_head d 0 s k (omega arith) long))
    ∙ get_or-take k s i nan h

module _ (s : Setting) (d mem : List Float) (k : ℕ) (h : SettingFits s (length d)) (p : Pasted d 0 (table_of s) s.coefs mem k) (l : k < s.coefs) where
  pub next_fits : NextFits s k mem
  next_fits =
      let e = length_table s (length d) h in
      record {
        room = omega (arith, p.same, h.room);
        more = l;
        written =
            λ i before.
            ap (λ (c : List Float). get_or c i nan) p.so_far
            ∙ get_or_pasted (table_of s) d k i (omega arith) before
            ∙ get_or_table s (length d) h i (omega arith);
      }

  pub stored : (v : Float) → v ≡ entry_of s k → Pasted d 0 (table_of s) s.coefs (set mem k v) (k + 1)
  stored v is =
      let e = length_table s (length d) h in
      subst (λ (i : ℕ). Pasted d 0 (table_of s) s.coefs (set mem i v) (k + 1)) (zero-add k)
      (goes_on d 0 (table_of s) s.coefs p nan (is ∙ sym (get_or_table s (length d) h k l)) l (omega (arith, h.room)) (omega arith))

pub mirror_fits : (s : Setting) (k : ℕ) (coefs : List Float) (x y : Float) (m : ℕ) → SettingFits s s.coefs → NextFits s k coefs
    → x ≡ coordinate_of s k → m < k → y ≡ coordinate_of s m → MirrorFits s.cutoff x s.filt_len y (get_or coefs m nan)
unfolding entry_of
mirror_fits s k coefs x y m f h x-is before y-is =
    record {
      n_some = f.n_some;
      x_real = rw x-is (coordinate_real s s.coefs f k h.more);
      y_real = rw y-is (coordinate_real s s.coefs f m (omega (arith, h.more)));
      is_known = rw y-is (h.written m before);
    }

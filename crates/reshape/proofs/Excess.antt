-- A change of rate keeps the history's length, and its entries from the new alloc on: every copy stays below.
-- Assumes nothing.
use mathlib.Core.List.{List}
use Prim.Native.Nat.{ℕ, ◌+◌, ◌-◌, ◌*◌, ◌/◌, ◌≤◌, ◌<◌}
use native.Mathlib.Omega.{arith}
use borrow.Author.Tests.{eqb-false, ltb-true, ltb-false}
use lib.Dec.{ltb, eqb}
use lib.Ieee.{Float}
use lib.ListN.{length, drop, length-drop, length-replicate}
use lib.Seq.{paste}
use Rattle.std.proofs.lemmas.Bool.{cond_both}
use Rattle.timeline.specs.Laws.{KeptFrom}
use Rattle.timeline.proofs.History.{kept_all, kept_both, paste_keeps}
use Rattle.history.specs.Zeroed.{zeroed}
use Rattle.reshape.specs.Reshaped.{raised, first_copy, longer, shorter, grown, reshaped_history, ChangeFits}
use Rattle.reshape.specs.declared.Change.{Change}

module _ {alloc : ℕ} where
  module _ (h : List Float) (lent : alloc ≤ length h) where
    zeroed_keeps : (at k : ℕ) → at + k ≤ alloc → KeptFrom alloc h (zeroed h at k)
    zeroed_keeps at k f = paste_keeps h _ at k lent f (simp length-replicate (omega arith))

    down_keeps : (by k : ℕ) → by + k ≤ alloc → KeptFrom alloc h (paste h 0 (drop by h) k)
    down_keeps by k f = paste_keeps h (drop by h) 0 k lent (omega arith) (omega (arith, length-drop by h))

  -- ---- a copy upwards, and zeros below it
  module _ (h : List Float) (lent : alloc ≤ length h) where
    raised_keeps : (by k : ℕ) → by + k ≤ alloc → KeptFrom alloc h (raised h by k)
    raised_keeps by k f =
        let a = paste_keeps h h by k lent f (omega arith) in
        kept_both a (zeroed_keeps (paste h by h k) (omega (arith, a.long)) 0 by (omega arith))

  -- ---- by the two lengths
  module _ (h : List Float) (lent : alloc ≤ length h) where
    longer_keeps : (old n m : ℕ) → 0 < old → old + 2 * m ≤ alloc → n ≤ alloc → KeptFrom alloc h (longer h old n m)
    longer_keeps old n m some f g =
        let first = first_copy h old m in
        let e = old + 2 * m in
        let a : KeptFrom alloc h first = raised_keeps h lent m _ (omega arith) in
        let long : alloc ≤ length first = omega (arith, a.long) in
        kept_both a
        (cond_both (ltb e n) _ _ (KeptFrom alloc first)
        (λ t. raised_keeps first long (n - e) (e - 1) (omega (arith, ltb-true e n t)))
        (λ t. down_keeps first long ((e - n) / 2) (n - 1 + (e - n) / 2) (omega (arith, ltb-false e n t))))

    shorter_keeps : (old n m : ℕ) → n < old → old + 2 * m ≤ alloc → KeptFrom alloc h (shorter h old n m)
    shorter_keeps old n m l f = down_keeps h lent ((old - n) / 2) (n - 1 + (old - n) / 2 + m) (omega arith)

module _ (h : List Float) (c : Change) (fits : ChangeFits (length h) c) where
  pub reshaped_keeps : KeptFrom c.mem_alloc_size h (reshaped_history h c)
  reshaped_keeps =
      let alloc = c.mem_alloc_size in
      let old = c.old_length in
      let n = c.filt_len in
      let m = c.magic_samples in
      let a = zeroed_keeps h fits.lent c.old_alloc_size (alloc - c.old_alloc_size) (omega (arith, fits.grows)) in
      let lent : alloc ≤ length (grown h c) = omega (arith, a.long, fits.lent) in
      kept_both a
      (cond_both (eqb c.started 0) _ _ (KeptFrom alloc (grown h c))
      (λ t. zeroed_keeps (grown h c) lent 0 alloc (omega arith))
      (λ t.
      let used = fits.before (eqb-false c.started 0 t) in
      let within : old + 2 * m ≤ alloc = omega (arith, used.1, fits.grows) in
      cond_both (ltb old n) _ _ (KeptFrom alloc (grown h c))
      (λ u. longer_keeps (grown h c) lent old n m used.0 within fits.holds)
      (λ u.
      cond_both (ltb n old) _ _ (KeptFrom alloc (grown h c))
      (λ v. shorter_keeps (grown h c) lent old n m (ltb-true n old v) within)
      (λ v. kept_all (grown h c)))))

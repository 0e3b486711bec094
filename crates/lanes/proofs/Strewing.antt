-- Stores `by` entries apart.
--     strewn_none                  no store
--     strewn_store, strewn_on      one store more, and stores after stores
--     strewn_full, strewn_all      nothing below count is left
--     strewn_then                  the rest of a class
--     strewn_more                  four sums after others
-- Assumes nothing.
use mathlib.Core.Path.{◌≡◌, refl, ap, ◌∙◌}
use mathlib.Core.Logic.{inl, inr}
use mathlib.Core.List.{List, []}
use Prim.Native.Nat.{ℕ, zero, suc, ◌+◌, ◌*◌, ◌-◌, ◌≤◌, ◌<◌}
use native.Mathlib.Nat.{add-mul, add-zero, zero-mul, mul-one, mul-le-mul_left, mul-le-mul_right, lt_of_mul-lt-mul_right}
use native.Mathlib.Omega.{arith}
use lib.ListN.{length, set, length-set, get_or}
use lib.Seq.{get_or-set_same, get_or-set_other}
use lib.Ieee.{Float, nan}
use Rattle.math.proofs.Closest.{below_or_not}
use Rattle.kernel.specs.Sums.{at}
use Rattle.lanes.specs.Class.{Classed}
use Rattle.lanes.specs.Inner.{fours, sums_of, Strewn}
use Rattle.lanes.proofs.Adding.{sums_at}

module _ (from by count : ℕ) where
  pub strewn_none : (before : List Float) (f : ℕ → Float) → Strewn before before from by count 0 f
  strewn_none before f = record { long = refl; these = λ l h k. absurd (omega arith); others = λ k h. refl }

  strewn_one : (before : List Float) (v : Float) → from < count → from < length before → Strewn before (set before from v) from by count 1 (λ l. v)
  strewn_one before v below h =
      record {
        long = length-set before from v;
        these = λ l b c.
            let e : l ≡ 0 = omega arith in
            rw (e, zero-mul, add-zero) (get_or-set_same before from v nan h);
        others = λ k g. get_or-set_other before from k v nan (λ e. absurd (omega (arith, g 0 (omega arith) (omega (arith, zero-mul by)))));
      }

module _ (from by count : ℕ) where
  -- what is stored has another name
  pub strewn_same : {before after : List Float} {m : ℕ} {f g : ℕ → Float} → Strewn before after from by count m f
      → ((l : ℕ) → l < m → from + l * by < count → f l ≡ g l) → Strewn before after from by count m g
  strewn_same s h = record { long = s.long; these = λ l b c. s.these l b c ∙ h l b c; others = s.others }

  -- two of them `by` entries apart are not the same
  apart : {l m : ℕ} → 0 < by → from + l * by ≡ from + m * by → l < m → ⊥
  apart {l} {m} some e h = omega (arith, mul-le-mul_right {m = l + 1} {n = m} by (omega arith), add-mul l 1 by)

  module _ {before between : List Float} {m : ℕ} {f : ℕ → Float} (s : Strewn before between from by count m f) where
    pub strewn_on : {after : List Float} (start j : ℕ) {g : ℕ → Float} → start ≡ from + m * by → Strewn between after start by count j g → 0 < by
        → ((l : ℕ) → l < j → start + l * by < count → g l ≡ f (m + l)) → Strewn before after from by count (m + j) f
    strewn_on {after} start j {g} e t some h =
        record {
          long = t.long ∙ s.long;
          these = these;
          others = λ k o.
              t.others k (λ l b q. o (m + l) (omega arith) (omega (arith, add-mul m l by)))
              ∙ s.others k (λ l b q. o l (omega arith) q);
        }
      where
        these : (l : ℕ) → l < m + j → from + l * by < count → at after (from + l * by) ≡ f l
        these l b c = elim (below_or_not l m) [
          | inl z ↦
              t.others (from + l * by) (λ i q u. absurd (apart {l = l} {m = m + i} some (omega (arith, add-mul m i by)) (omega arith)))
              ∙ s.these l z c
          | inr g ↦
              let i : m + (l - m) ≡ l = omega arith in
              let place : from + l * by ≡ start + (l - m) * by = omega (arith, ap (λ (v : ℕ). v * by) i, add-mul m (l - m) by) in
              ap (at after) place ∙ t.these (l - m) (omega arith) (omega arith) ∙ h (l - m) (omega arith) (omega arith) ∙ ap f i
        ]

    pub strewn_store : {k : ℕ} {v : Float} → k ≡ from + m * by → k < count → k < length between → v ≡ f m → 0 < by
        → Strewn before (set between k v) from by count (m + 1) f
    strewn_store {k} {v} e below h g some =
        strewn_on k 1 e (strewn_one k by count between v below h) some (λ l b c. g ∙ ap f (omega arith))

    -- no entry below count is left
    pub strewn_full : {j : ℕ} → m ≤ j → count ≤ from + m * by → Strewn before between from by count j f
    strewn_full h full =
        record {
          long = s.long;
          these = λ l b c. s.these l (lt_of_mul-lt-mul_right by (omega arith)) c;
          others = λ k o. s.others k (λ l b q. o l (omega arith) q);
        }

    -- so that is all of the class
    pub strewn_all : count ≤ from + m * by → Classed before between from by count f
    strewn_all full =
        record {
          long = s.long;
          these = λ l c. s.these l (lt_of_mul-lt-mul_right by (omega arith)) c;
          others = λ k o. s.others k (λ l b q. o l q);
        }

-- a class has fewer entries than count
classed_strewn : (from by count : ℕ) {before after : List Float} {f : ℕ → Float} → 0 < by → Classed before after from by count f
    → Strewn before after from by count count f
classed_strewn from by count some c =
    record { long = c.long; these = λ l b h. c.these l h; others = λ k o. c.others k (λ m e. low k m (o m) e) }
  where
    low : (k m : ℕ) → (m < count → k ≡ from + m * by → count ≤ k) → k ≡ from + m * by → count ≤ k
    low k m h e = elim (below_or_not m count) [
      | inl b ↦ h b e
      | inr g ↦ omega (arith, mul-le-mul_left {m = 1} {n = by} m some, mul-one m)
    ]

-- the rest of a class is made after the first of it
pub strewn_then : (from by count : ℕ) {before between after : List Float} {m : ℕ} {f g : ℕ → Float} (start : ℕ) → Strewn before between from by count m f
    → start ≡ from + m * by → Classed between after start by count g → 0 < by → ((l : ℕ) → start + l * by < count → g l ≡ f (m + l))
    → Classed before after from by count f
strewn_then from by count {m = m} start s e c some h =
    strewn_all from by count (strewn_on from by count s start count e (classed_strewn start by count some c) some (λ l b k. h l k))
    (omega (arith, add-mul m count by, mul-le-mul_left {m = 1} {n = by} count some, mul-one count))

-- ---- by fours

fours_at : (f : ℕ → Float) (l : ℕ) → l < 4 → at (fours f) l ≡ f l
fours_at f zero h = refl
fours_at f (suc zero) h = refl
fours_at f (suc (suc zero)) h = refl
fours_at f (suc (suc (suc zero))) h = refl
fours_at f (suc (suc (suc (suc l)))) h = absurd (omega arith)

-- four q of the sums is put after those before it
pub strewn_more : (from by count : ℕ) {before between after : List Float} {q n : ℕ} {s : List (List Float)} {f : ℕ → Float} → 0 < by → s ≡ sums_of n f → q < n
    → Strewn before between from by count (4 * q) f → Strewn between after (from + 4 * q * by) by count 4 (at (get_or s q []))
    → Strewn before after from by count (4 * (q + 1)) f
strewn_more from by count {before} {between} {after} {q} {n} {f = f} some e low p t =
    let more : Strewn before after from by count (4 * q + 4) f =
    strewn_on from by count p (from + 4 * q * by) 4 refl t some
    (λ l b c. ap (λ (v : List (List Float)). at (get_or v q []) l) e ∙ ap (λ (v : List Float). at v l) (sums_at n q f low) ∙ fours_at (λ l. f (4 * q + l)) l b) in
    let next : 4 * (q + 1) ≡ 4 * q + 4 = omega arith in
    rw next more

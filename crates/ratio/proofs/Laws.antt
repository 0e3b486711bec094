-- Euclid's steps find the greatest common divisor, and dividing by it gives the same ratio in lowest terms.
-- Assumes nothing.
use mathlib.Core.Path.{◌≡◌, sym, ap, ◌∙◌}
use Prim.Native.Nat.{ℕ, zero, suc, ◌*◌, ◌%◌, ◌≤◌, ◌<◌, ◌∣◌}
use native.Mathlib.Nat.{dvd_refl, dvd-zero, dvd-mod_iff, dvd_antisymm, mod-lt, zero-lt-suc, not-suc-le-zero, mul-div_cancel', mul-dvd-mul_left, dvd_of_mul-dvd-mul_left, dvd-mul_left, eq-one_of_dvd-one, pos_of_dvd_of_pos, le_of_dvd, mul_assoc, mul_comm, mul-one}
use native.Mathlib.Omega.{arith}
use Rattle.ratio.specs.Gcd.{euclid, gcd_of, IsGcd}
use Rattle.ratio.specs.Lowest.{lowest}

-- ---- the greatest common divisor
with_zero : (b : ℕ) → IsGcd b 0 b
with_zero b = record { divides_left = dvd-zero b; divides_right = dvd_refl b; greatest = λ d p q. q }

-- back from (b % a, a) to (a, b)
step_back : {g a b : ℕ} → IsGcd g (b % a) a → IsGcd g a b
step_back {g} p =
    record {
      divides_left = p.divides_right;
      divides_right = (dvd-mod_iff g p.divides_right).0 p.divides_left;
      greatest = λ d u v. p.greatest d ((dvd-mod_iff d u).1 v) u;
    }

euclid_is : (fuel a b : ℕ) → a ≤ fuel → IsGcd (euclid fuel a b) a b
unfolding euclid
euclid_is zero zero b h = with_zero b
euclid_is zero (suc a) b h = absurd (not-suc-le-zero h)
euclid_is (suc fuel) zero b h = with_zero b
euclid_is (suc fuel) (suc a) b h =
    let m : b % suc a < suc a = mod-lt b (zero-lt-suc a) in
    step_back (euclid_is fuel (b % suc a) (suc a) (omega arith))

-- `gcd_of` divides both, and is the greatest that does
pub gcd_is : (a b : ℕ) → IsGcd (gcd_of a b) a b
unfolding gcd_of
gcd_is a b = euclid_is a a b (omega arith)

-- there is only one
pub unique : {g h a b : ℕ} → IsGcd g a b → IsGcd h a b → g ≡ h
unique {g} {h} p q = dvd_antisymm (q.greatest g p.divides_left p.divides_right) (p.greatest h q.divides_left q.divides_right)

pub gcd_zero : (b : ℕ) → gcd_of 0 b ≡ b
gcd_zero b = unique (gcd_is 0 b) (with_zero b)

pub gcd_step : (a b : ℕ) → gcd_of (b % a) a ≡ gcd_of a b
gcd_step a b = unique (step_back (gcd_is (b % a) a)) (gcd_is a b)

-- ---- lowest terms
module _ (a b : ℕ) where
  abbrev g : ℕ
  g = gcd_of a b

  abbrev num : ℕ
  num = (lowest a b).num

  abbrev den : ℕ
  den = (lowest a b).den

  pub num_back : gcd_of a b * (lowest a b).num ≡ a
  unfolding lowest
  num_back = mul-div_cancel' g (gcd_is a b).divides_left

  pub den_back : gcd_of a b * (lowest a b).den ≡ b
  unfolding lowest
  den_back = mul-div_cancel' g (gcd_is a b).divides_right

  pub gcd_positive : 0 < b → 0 < gcd_of a b
  gcd_positive h = pos_of_dvd_of_pos (gcd_is a b).divides_right h

  -- num * b = a * den: the ratio is that of a to b
  pub same_ratio : (lowest a b).num * b ≡ a * (lowest a b).den
  same_ratio =
      ap (λ (k : ℕ). num * k) (sym den_back) ∙ sym (mul_assoc num g den) ∙ ap (λ (k : ℕ). k * den) (mul_comm num g ∙ num_back)

  -- only 1 divides both: the terms are lowest
  pub lowest_terms : 0 < b → (d : ℕ) → d ∣ (lowest a b).num → d ∣ (lowest a b).den → d ≡ 1
  lowest_terms h d p q =
      let s : g * d ∣ a = rw num_back at (mul-dvd-mul_left d g p) in
      let t : g * d ∣ b = rw den_back at (mul-dvd-mul_left d g q) in
      let both : g * d ∣ g * 1 = rw (mul-one g) ((gcd_is a b).greatest (g * d) s t) in
      eq-one_of_dvd-one (dvd_of_mul-dvd-mul_left d (gcd_positive h) both)

  -- neither term is 0 where its number is not, nor above it
  part : {x r : ℕ} → g * x ≡ r → 0 < r → (0 < x) × (x ≤ r)
  part {x} {r} e h =
      let d : x ∣ r = rw e at (dvd-mul_left x g) in
      (pos_of_dvd_of_pos d h, le_of_dvd h d)

  pub num_bounds : 0 < a → (0 < (lowest a b).num) × ((lowest a b).num ≤ a)
  num_bounds h = part num_back h

  pub den_bounds : 0 < b → (0 < (lowest a b).den) × ((lowest a b).den ≤ b)
  den_bounds h = part den_back h

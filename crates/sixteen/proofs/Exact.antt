-- A float times a power of two loses nothing, a subnormal one too, as long as the product stays below 2 ^ (emax + 1). Assumes nothing.
use Rattle.std.proofs.Common.{◌≡◌, ℕ, zero, suc, ◌+◌, ◌-◌, ◌*◌, ◌%◌, ◌^◌, ◌<◌, ◌≤◌, Bool, true, false, ◌&&◌, T, eqb, ltb, leb, ℤ, pos, negsuc, sym, refl, ap, ◌∙◌, subst, mul_assoc, mul_comm, mul-lt-mul_of_pos_right, mul-pos, one-mul, lt_of_not-le, mul-one, not-le_of_lt, mul_left_comm, arith, eqb→eq, ltb→lt, leb→le, pow_pos, pow-add}
use lib.Pow.{pow-lt}
use lib.Ieee.{Float, fin, Format, prec, emax, low, up, down, round, mul, fits}
use lib.Ieee.Digits.{back}
use lib.Ieee.Fits.{and_l, and_r}
use lib.Ieee.Exact.{HasValue, round_exact}

-- ---- what `fits` says of a finite value: how many digits it has, and how far down the last one lies
fits_digits : (f : Format) (s : Bool) (m : ℕ) (e : ℤ) → T (fits f (fin s m e)) → m < 2 ^ prec f
unfolding fits
fits_digits f s zero e h = pow_pos (prec f)
fits_digits f s (suc m) e h =
    let A = eqb (suc m % 2) 1 in
    let B = ltb (suc m) (2 ^ prec f) in
    let C = leb (down e) (2 ^ low f) in
    ltb→lt (suc m) (2 ^ prec f) (and_r A B (and_l (A && B) C (and_l (A && B && C) (ltb (suc m * up e) (2 ^ suc (emax f) * down e)) h)))

zero_low : (f : Format) (e : ℤ) → up e * down e ≡ 1 → down e ≤ 2 ^ low f
zero_low f (pos k) h = pow_pos (low f)
zero_low f (negsuc k) h = omega (arith, pow_pos (low f))

fits_low : (f : Format) (s : Bool) (m : ℕ) (e : ℤ) → T (fits f (fin s m e)) → down e ≤ 2 ^ low f
unfolding fits
fits_low f s zero e h = zero_low f e (eqb→eq (up e * down e) 1 h)
fits_low f s (suc m) e h =
    let A = eqb (suc m % 2) 1 in
    let B = ltb (suc m) (2 ^ prec f) in
    let C = leb (down e) (2 ^ low f) in
    leb→le (down e) (2 ^ low f) (and_r (A && B) C (and_l (A && B && C) (ltb (suc m * up e) (2 ^ suc (emax f) * down e)) h))

-- ---- on powers of two
pow_le_back : (i j : ℕ) → 2 ^ i ≤ 2 ^ j → i ≤ j
pow_le_back i j h = omega (arith, lt_of_not-le (λ (g : suc j ≤ i). not-le_of_lt (pow-lt g) h))

split : (l a : ℕ) → a ≤ l → 2 ^ l ≡ 2 ^ (l - a) * 2 ^ a
split l a h = ap (λ (z : ℕ). 2 ^ z) (sym (back l a h)) ∙ pow-add 2 (l - a) a

up_same : (m a k l : ℕ) → m * 2 ^ a * (1 * 2 ^ k) * 2 ^ l ≡ m * 2 ^ (a + (k + l)) * 1
up_same m a k l = simp (pow-add, mul_assoc, one-mul, mul-one)

down_same : (m a k l : ℕ) → a ≤ l → m * 1 * (1 * 2 ^ k) * 2 ^ l ≡ m * 2 ^ (k + (l - a)) * (2 ^ a * 1)
down_same m a k l h = ap (λ (z : ℕ). m * 1 * (1 * 2 ^ k) * z) (split l a h) ∙ simp (pow-add, mul_assoc, one-mul, mul-one)

up_room : (m a k l E : ℕ) → m * 2 ^ a * 2 ^ k < 2 ^ E * 1 → m * 2 ^ (a + (k + l)) < 2 ^ (l + E)
up_room m a k l E h = simp (pow-add, mul_comm, mul_left_comm, mul-one, mul_assoc) (simp (mul-one, mul_assoc, mul_comm, mul_left_comm) at (mul-lt-mul_of_pos_right h (pow_pos l)))

down_room : (m a k l E : ℕ) → a ≤ l → m * 1 * 2 ^ k < 2 ^ E * 2 ^ a → m * 2 ^ (k + (l - a)) < 2 ^ (l + E)
down_room m a k l E g h = rw (pow-add 2 l E, split l a g) (simp (pow-add, mul_comm, mul_left_comm, mul-one, mul_assoc) (simp (mul-one, mul_assoc, mul_comm, mul_left_comm) at (mul-lt-mul_of_pos_right h (pow_pos (l - a)))))

-- ---- m * 2 ^ k with the sign s, rounded, is itself
scaled : (f : Format) (s : Bool) (m : ℕ) (e : ℤ) (k : ℕ) → m < 2 ^ prec f → down e ≤ 2 ^ low f → m * up e * 2 ^ k < 2 ^ suc (emax f) * down e
    → HasValue (round f s (m * up e * (1 * 2 ^ k)) (down e * 1)) s (m * up e * (1 * 2 ^ k)) (down e * 1)
scaled f s m (pos a) k d l h =
    round_exact f s (m * 2 ^ a * (1 * 2 ^ k)) 1 m (a + (k + low f)) (pow_pos 0) d (up_room m a k (low f) (suc (emax f)) h) (up_same m a k (low f))
scaled f s m (negsuc a) k d l h =
    let g = pow_le_back (suc a) (low f) l in
    round_exact f s (m * 1 * (1 * 2 ^ k)) (2 ^ suc a * 1) m (k + (low f - suc a)) (mul-pos (pow_pos (suc a)) (pow_pos 0)) d
    (down_room m (suc a) k (low f) (suc (emax f)) g h) (down_same m (suc a) k (low f) g)

mul_is : (f : Format) (s : Bool) (m : ℕ) (e : ℤ) (k : ℕ) → mul f (fin s m e) (fin false 1 (pos k)) ≡ round f s (m * up e * (1 * 2 ^ k)) (down e * 1)
unfolding mul
mul_is f true m e k = refl
mul_is f false m e k = refl

plainly : (x : Float) (s : Bool) (a k c : ℕ) → HasValue x s (a * (1 * k)) (c * 1) → HasValue x s (a * k) c
plainly x s a k c h = subst (λ (z : ℕ). HasValue x s (a * z) c) (one-mul k) (subst (λ (z : ℕ). HasValue x s (a * (1 * k)) z) (mul-one c) h)

-- x * 2 ^ k is exact
pub mul_pow_exact : (f : Format) (s : Bool) (m : ℕ) (e : ℤ) (k : ℕ) → T (fits f (fin s m e)) → m * up e * 2 ^ k < 2 ^ suc (emax f) * down e
    → HasValue (mul f (fin s m e) (fin false 1 (pos k))) s (m * up e * 2 ^ k) (down e)
mul_pow_exact f s m e k t h =
    plainly (mul f (fin s m e) (fin false 1 (pos k))) s (m * up e) (2 ^ k) (down e)
    (subst (λ (x : Float). HasValue x s (m * up e * (1 * 2 ^ k)) (down e * 1)) (sym (mul_is f s m e k))
    (scaled f s m e k (fits_digits f s m e t) (fits_low f s m e t) h))

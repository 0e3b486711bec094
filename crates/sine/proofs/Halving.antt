-- The remainder of two magnitudes, by halves. A magnitude counts units of the format's smallest value: x is `at f n` for one n on the
-- format's grid. Remainder, difference, sum and order of such numbers are those of the counts, wherever the result is on the grid too, and
-- remainders are. So x % y is x % (y + y), less y if that is not below y. Assumes nothing.
use mathlib.Core.Path.{◌≡◌, refl, sym, ap, ◌∙◌, subst}
use mathlib.Core.Bool.{Bool, true, false, cond, ◌&&◌, true≢false}
use mathlib.Core.Logic.{⊎_elim}
use Prim.Native.Nat.{ℕ, zero, suc, ◌+◌, ◌-◌, ◌*◌, ◌/◌, ◌%◌, ◌^◌, ◌≤◌, ◌<◌}
use native.Mathlib.Nat.{le_trans, le_of_eq, lt_of_lt_of_le, lt_of_le_of_lt, lt_irrefl, le_of_suc-le-suc, lt_of_not-le, mul_comm, mul_assoc, mul_right_comm, mul-one, mul-pos, mod-lt, mod-eq_of_lt, mul-add-mod_self_right, mod-le, zero-mul, lt_trans, div-add-mod', mul-lt-mul_of_pos_right, lt_of_mul-lt-mul_right, eq_of_mul-eq-mul_right, mul-sub, add-mul, le_of_mul-le-mul_right, mul-le-mul_right, le-mul_of_pos_right, pow-succ'}
use native.Mathlib.Omega.{arith}
use lib.IntN.{ℤ, pos, negsuc}
use lib.Dec.{T, leb, ltb, eqb, leb→le, ltb→lt, eqb→eq, not_T, nltb→le, lit<, lit≤}
use lib.Pow.{pow-add, pow_pos, pow-lt}
use lib.Ieee.{Float, nan, inf, fin, Format, prec, emax, low, binary64, up, down, round, fits, to_bits, of_bits, size, hid, top, rem, sub, add, neg, sum, lt}
use Rattle.sine.specs.Halving.{Grid, at, Halves}
use lib.Ieee.Exact.{HasValue, round_exact}
use lib.Ieee.Fits.{down_pos, and_l, and_r, round-fits}
use lib.Ieee.Scale.{round_same}
use lib.Ieee.Bits.{of_bits-to_bits, cond_no}
use borrow.Author.Tests.{le-ltb, lt-ltb}
use lib.Ieee.Nearest.{div_same}
use Rattle.math.proofs.Closest.{below_or_not}
use Rattle.math.specs.Sign.{magnitude}
use Rattle.math.proofs.Pick.{passed, failed}

-- ---- numbers
mod_unique : (a b q r : ℕ) → r < b → a ≡ q * b + r → a % b ≡ r
mod_unique a b q r h e = ap (λ (x : ℕ). x % b) e ∙ mul-add-mod_self_right q b r ∙ mod-eq_of_lt h

pub mod_scaled : (a b k : ℕ) → 0 < b → 0 < k → a * k % (b * k) ≡ a % b * k
mod_scaled a b k B K =
    mod_unique (a * k) (b * k) (a / b) (a % b * k) (mul-lt-mul_of_pos_right (mod-lt a B) K)
    (let e : a ≡ a / b * b + a % b = sym (div-add-mod' a b) in
    let d : (a / b * b + a % b) * k ≡ a / b * (b * k) + a % b * k = grind arith in
    ap (λ (x : ℕ). x * k) e ∙ d)

-- what x % (2 y) leaves below y is x % y, and from y on it is y more
pub below_half : (n m : ℕ) → 0 < m → n % (m + m) < m → n % (m + m) ≡ n % m
below_half n m h l =
    let e : n / (m + m) * (m + m) + n % (m + m) ≡ n = div-add-mod' n (m + m) in
    let d : n / (m + m) * (m + m) ≡ n / (m + m) * 2 * m = grind arith in
    sym (mod_unique n m (n / (m + m) * 2) (n % (m + m)) l (sym e ∙ ap (λ (x : ℕ). x + n % (m + m)) d))

pub over_half : (n m : ℕ) → 0 < m → m ≤ n % (m + m) → n % (m + m) - m ≡ n % m
over_half n m h l =
    let r = n % (m + m) in
    let e : n / (m + m) * (m + m) + r ≡ n = div-add-mod' n (m + m) in
    let d : n / (m + m) * (m + m) ≡ n / (m + m) * 2 * m = grind arith in
    let s : (n / (m + m) * 2 + 1) * m ≡ n / (m + m) * 2 * m + m = grind arith in
    let small : r < m + m = mod-lt n (omega arith) in
    sym (mod_unique n m (n / (m + m) * 2 + 1) (r - m) (omega arith) (omega (arith, e, d, s)))

pow_le_back : (a l : ℕ) → 2 ^ a ≤ 2 ^ l → a ≤ l
pow_le_back a l h = le_of_suc-le-suc (lt_of_not-le (λ (g : suc l ≤ a). lt_irrefl (2 ^ l) (lt_of_lt_of_le (pow-lt g) h)))

-- ---- the grid of a format
pub at_value : (f : Format) (n : ℕ) → Grid f n → HasValue (at f n) false n (2 ^ low f)
at_value f n g =
    round_exact f false n (2 ^ low f) g.q g.j (pow_pos (low f)) g.few (subst (λ (x : ℕ). x < 2 ^ (low f + suc (emax f))) g.is g.fine) (ap (λ (x : ℕ). x * 2 ^ low f) g.is)

shift : (q j k : ℕ) → j ≤ k → q * 2 ^ k ≡ q * 2 ^ (k - j) * 2 ^ j
shift q j k h =
    let e : k ≡ k - j + j = omega arith in
    ap (λ (x : ℕ). q * 2 ^ x) e ∙ ap (λ (x : ℕ). q * x) (pow-add 2 (k - j) j) ∙ sym (mul_assoc q (2 ^ (k - j)) (2 ^ j))

first_pos : (b k : ℕ) → 0 < b * k → 0 < b
first_pos zero k h = absurd (omega (arith, zero-mul k))
first_pos (suc b) k h = omega arith

not_zero : (b : ℕ) → 0 < b → b ≡ 0 → ⊥
not_zero b h e = omega arith

-- remainders stay on the grid: they have no more digits than the one of the two with the finer step
pub grid_mod : (f : Format) (n m : ℕ) → 0 < m → Grid f n → Grid f m → Grid f (n % m)
grid_mod f n m h g k = ⊎_elim (λ (l : g.j < k.j). finer (omega arith)) (λ (l : k.j ≤ g.j). coarser l) (below_or_not g.j k.j)
  where
    within : n % m < 2 ^ (low f + suc (emax f))
    within = lt_trans (mod-lt n h) k.fine

    finer : g.j ≤ k.j → Grid f (n % m)
    finer l =
        let b = k.q * 2 ^ (k.j - g.j) in
        let e : m ≡ b * 2 ^ g.j = k.is ∙ shift k.q g.j k.j l in
        let B : 0 < b = first_pos b (2 ^ g.j) (subst (λ (x : ℕ). 0 < x) e h) in
        let r : n % m ≡ g.q % b * 2 ^ g.j = ap (λ (x : ℕ). x % m) g.is ∙ ap (λ (x : ℕ). g.q * 2 ^ g.j % x) e ∙ mod_scaled g.q b (2 ^ g.j) B (pow_pos g.j) in
        record { q = g.q % b; j = g.j; is = r; few = lt_of_le_of_lt (mod-le g.q b) g.few; fine = within }

    coarser : k.j ≤ g.j → Grid f (n % m)
    coarser l =
        let a = g.q * 2 ^ (g.j - k.j) in
        let e : n ≡ a * 2 ^ k.j = g.is ∙ shift g.q k.j g.j l in
        let B : 0 < k.q = first_pos k.q (2 ^ k.j) (subst (λ (x : ℕ). 0 < x) k.is h) in
        let r : n % m ≡ a % k.q * 2 ^ k.j = ap (λ (x : ℕ). x % m) e ∙ ap (λ (x : ℕ). a * 2 ^ k.j % x) k.is ∙ mod_scaled a k.q (2 ^ k.j) B (pow_pos k.j) in
        record { q = a % k.q; j = k.j; is = r; few = lt_trans (mod-lt a B) k.few; fine = within }

-- ---- a magnitude is a count on the grid
-- to_bits looks at the value alone
bits_by_value : (f : Format) (m n : ℕ) (e d : ℤ) → m * up e * down d ≡ n * up d * down e → to_bits f (fin false m e) ≡ to_bits f (fin false n d)
unfolding to_bits
bits_by_value f m n e d h =
    let cross : m * up e * 2 ^ low f * down d ≡ n * up d * 2 ^ low f * down e =
    mul_right_comm (m * up e) (2 ^ low f) (down d) ∙ ap (λ (x : ℕ). x * 2 ^ low f) h ∙ mul_right_comm (n * up d) (down e) (2 ^ low f) in
    ap (λ (x : ℕ). 0 + (size x - prec f) * hid f + x / 2 ^ (size x - prec f))
    (div_same (m * up e * 2 ^ low f) (down e) (n * up d * 2 ^ low f) (down d) (down_pos e) (down_pos d) cross)

-- what a format holds is told by its value
pub same_value : (f : Format) (x y : Float) (a c : ℕ) → 0 < c → T (fits f x) → T (fits f y) → HasValue x false a c → HasValue y false a c → x ≡ y
same_value f nan y a c C p q v w = absurd v
same_value f (inf s) y a c C p q v w = absurd v
same_value f (fin s m e) nan a c C p q v w = absurd w
same_value f (fin s m e) (inf t) a c C p q v w = absurd w
same_value f (fin s m e) (fin t n d) a c C p q v w =
    let cross : m * up e * down d ≡ n * up d * down e =
    eq_of_mul-eq-mul_right c C (m * up e * down d) (n * up d * down e)
    (mul_right_comm (m * up e) (down d) c ∙ ap (λ (x : ℕ). x * down d) v.1 ∙ mul_right_comm a (down e) (down d) ∙ ap (λ (x : ℕ). x * down e) (sym w.1)
    ∙ mul_right_comm (n * up d) c (down e)) in
    let bits : to_bits f (fin s m e) ≡ to_bits f (fin t n d) =
    ap (λ (x : Bool). to_bits f (fin x m e)) v.0 ∙ bits_by_value f m n e d cross ∙ ap (λ (x : Bool). to_bits f (fin x n d)) (sym w.0) in
    sym (of_bits-to_bits f (fin s m e) p) ∙ ap (of_bits f) bits ∙ of_bits-to_bits f (fin t n d) q

pub at_of_value : (f : Format) (x : Float) (n : ℕ) → Grid f n → T (fits f x) → HasValue x false n (2 ^ low f) → x ≡ at f n
at_of_value f x n g p v = same_value f x (at f n) n (2 ^ low f) (pow_pos (low f)) p (round-fits f false n (2 ^ low f)) v (at_value f n g)

-- where a magnitude stands
pub record Counted (f : Format) (x : Float) : Type 0 where
  pub n : ℕ
  pub grid : Grid f n
  pub is : x ≡ at f n

counted_zero : (f : Format) (e : ℤ) → T (fits f (fin false zero e)) → Counted f (fin false zero e)
counted_zero f e t =
    let none : zero * up e * 2 ^ low f ≡ 0 * down e = simp zero-mul in
    let g : Grid f 0 = record { q = 0; j = 0; is = omega arith; few = pow_pos (prec f); fine = pow_pos (low f + suc (emax f)) } in
    record { n = 0; grid = g; is = at_of_value f (fin false zero e) 0 g t (refl, none) }

top_is : (f : Format) → 2 ^ suc (emax f) * 2 ^ low f ≡ 2 ^ (low f + suc (emax f))
top_is f = mul_comm (2 ^ suc (emax f)) (2 ^ low f) ∙ sym (pow-add 2 (low f) (suc (emax f)))

-- the last three of the four tests of a format
parted : (A B C D : Bool) → T (A && B && C && D) → T B × T C × T D
parted A B C D t =
    let abc = and_l (A && B && C) D t in
    (and_r A B (and_l (A && B) C abc), and_r (A && B) C abc, and_r (A && B && C) D t)

-- from the four tests of a format on an m above 0
counted_up : (f : Format) (m k : ℕ) → T (fits f (fin false m (pos k))) → m < 2 ^ prec f → m * 2 ^ k < 2 ^ suc (emax f) * 1 → Counted f (fin false m (pos k))
counted_up f m k t few small =
    let n = m * 2 ^ (k + low f) in
    let e : n ≡ m * 2 ^ k * 2 ^ low f = ap (λ (x : ℕ). m * x) (pow-add 2 k (low f)) ∙ sym (mul_assoc m (2 ^ k) (2 ^ low f)) in
    let fine : n < 2 ^ (low f + suc (emax f)) =
    lt_of_lt_of_le (lt_of_le_of_lt (le_of_eq e) (mul-lt-mul_of_pos_right small (pow_pos (low f))))
    (le_of_eq (ap (λ (x : ℕ). x * 2 ^ low f) (mul-one (2 ^ suc (emax f))) ∙ top_is f)) in
    let g : Grid f n = record { q = m; j = k + low f; is = refl; few = few; fine = fine } in
    record { n = n; grid = g; is = at_of_value f (fin false m (pos k)) n g t (refl, sym e ∙ sym (mul-one n)) }

counted_down : (f : Format) (m k : ℕ) → T (fits f (fin false m (negsuc k))) → m < 2 ^ prec f → 2 ^ suc k ≤ 2 ^ low f → m * 1 < 2 ^ suc (emax f) * 2 ^ suc k
    → Counted f (fin false m (negsuc k))
counted_down f m k t few deep small =
    let l = pow_le_back (suc k) (low f) deep in
    let n = m * 2 ^ (low f - suc k) in
    let e : n * 2 ^ suc k ≡ m * 2 ^ low f = sym (shift m (suc k) (low f) l) in
    let fine : n < 2 ^ (low f + suc (emax f)) =
    lt_of_mul-lt-mul_right (2 ^ suc k)
    (lt_of_lt_of_le (lt_of_le_of_lt (le_of_eq (e ∙ ap (λ (x : ℕ). x * 2 ^ low f) (sym (mul-one m)))) (mul-lt-mul_of_pos_right small (pow_pos (low f))))
    (le_of_eq (mul_right_comm (2 ^ suc (emax f)) (2 ^ suc k) (2 ^ low f) ∙ ap (λ (x : ℕ). x * 2 ^ suc k) (top_is f)))) in
    let g : Grid f n = record { q = m; j = low f - suc k; is = refl; few = few; fine = fine } in
    record { n = n; grid = g; is = at_of_value f (fin false m (negsuc k)) n g t (refl, ap (λ (x : ℕ). x * 2 ^ low f) (mul-one m) ∙ sym e) }

pub counted : (f : Format) (m : ℕ) (e : ℤ) → T (fits f (fin false m e)) → Counted f (fin false m e)
unfolding fits
counted f zero e t = counted_zero f e t
counted f (suc m) (pos k) t =
    let u = parted (eqb (suc m % 2) 1) (ltb (suc m) (2 ^ prec f)) (leb 1 (2 ^ low f)) (ltb (suc m * 2 ^ k) (2 ^ suc (emax f) * 1)) t in
    counted_up f (suc m) k t (ltb→lt (suc m) (2 ^ prec f) u.0) (ltb→lt (suc m * 2 ^ k) (2 ^ suc (emax f) * 1) u.2)
counted f (suc m) (negsuc k) t =
    let u = parted (eqb (suc m % 2) 1) (ltb (suc m) (2 ^ prec f)) (leb (2 ^ suc k) (2 ^ low f)) (ltb (suc m * 1) (2 ^ suc (emax f) * 2 ^ suc k)) t in
    counted_down f (suc m) k t (ltb→lt (suc m) (2 ^ prec f) u.0) (leb→le (2 ^ suc k) (2 ^ low f) u.1) (ltb→lt (suc m * 1) (2 ^ suc (emax f) * 2 ^ suc k) u.2)

-- ---- what the operations do to counts
sub_mul : (x y l : ℕ) → (x - y) * l ≡ x * l - y * l
sub_mul x y l = mul_comm (x - y) l ∙ mul-sub l x y ∙ ap (λ (z : ℕ). z - l * y) (mul_comm l x) ∙ ap (λ (z : ℕ). x * l - z) (mul_comm l y)

ltb_says : (n m : ℕ) → ltb n m ≡ true → n < m
ltb_says n m t = ltb→lt n m (passed t)

ltb_denies : (n m : ℕ) → ltb n m ≡ false → m ≤ n
ltb_denies n m t = nltb→le n m (failed t)

-- x / c and y / c are n / l and m / l
module _ (x y c n m l : ℕ) (C : 0 < c) (L : 0 < l) (xs : x * l ≡ n * c) (ys : y * l ≡ m * c) where
  same_mod : 0 < m → x % y * l ≡ n % m * c
  same_mod h =
      let Y : 0 < y = first_pos y l (subst (λ (z : ℕ). 0 < z) (sym ys) (mul-pos h C)) in
      sym (mod_scaled x y l Y L) ∙ ap (λ (z : ℕ). z % (y * l)) xs ∙ ap (λ (z : ℕ). n * c % z) ys ∙ mod_scaled n m c h C

  same_difference : (x - y) * l ≡ (n - m) * c
  same_difference = sub_mul x y l ∙ ap (λ (z : ℕ). z - y * l) xs ∙ ap (λ (z : ℕ). n * c - z) ys ∙ sym (sub_mul n m c)

  below_too : n < m → x < y
  below_too h = lt_of_mul-lt-mul_right l (lt_of_le_of_lt (le_of_eq xs) (lt_of_lt_of_le (mul-lt-mul_of_pos_right h C) (le_of_eq (sym ys))))

  not_below_too : m ≤ n → y ≤ x
  not_below_too h = le_of_mul-le-mul_right (le_trans (le_of_eq ys) (le_trans (mul-le-mul_right c h) (le_of_eq (sym xs)))) L

  same_order : ltb x y ≡ ltb n m
  same_order = ⊎_elim
      (λ (h : n < m). lt-ltb x y (below_too h) ∙ sym (lt-ltb n m h))
      (λ (h : m ≤ n). le-ltb x y (not_below_too h) ∙ sym (le-ltb n m h))
      (below_or_not n m)

-- a first numerator and a second one over the common denominator of two fractions
over_first : (a e d n l : ℕ) → a * l ≡ n * e → a * d * l ≡ n * (e * d)
over_first a e d n l h = mul_right_comm a d l ∙ ap (λ (z : ℕ). z * d) h ∙ mul_assoc n e d

over_second : (b e d m l : ℕ) → b * l ≡ m * d → b * e * l ≡ m * (e * d)
over_second b e d m l h = over_first b d e m l h ∙ ap (λ (z : ℕ). m * z) (mul_comm d e)

-- the value of `at f n` is n / 2 ^ low
rem_at : (f : Format) (x y : Float) (n m : ℕ) → 0 < m → HasValue x false n (2 ^ low f) → HasValue y false m (2 ^ low f) → rem f x y ≡ at f (n % m)
unfolding rem
rem_at f nan y n m h v w = absurd v
rem_at f (inf s) y n m h v w = absurd v
rem_at f (fin s a e) nan n m h v w = absurd w
rem_at f (fin s a e) (inf t) n m h v w = absurd w
rem_at f (fin s a e) (fin t b d) n m h v w =
    let l = 2 ^ low f in
    let c = down e * down d in
    let C : 0 < c = mul-pos (down_pos e) (down_pos d) in
    let xs = over_first (a * up e) (down e) (down d) n l v.1 in
    let ys = over_second (b * up d) (down e) (down d) m l w.1 in
    let B : 0 < b = first_pos b (up d) (first_pos (b * up d) l (subst (λ (z : ℕ). 0 < z) (sym w.1) (mul-pos h (down_pos d)))) in
    let left : Float = round f s (a * up e * down d % (b * up d * down e)) c in
    cond_no (eqb b 0) nan left (not_T (eqb b 0) (λ t. not_zero b B (eqb→eq b 0 t)))
    ∙ ap (λ (z : Bool). round f z (a * up e * down d % (b * up d * down e)) c) v.0
    ∙ round_same f false (a * up e * down d % (b * up d * down e)) c (n % m) l C (pow_pos (low f))
    (same_mod (a * up e * down d) (b * up d * down e) c n m l C (pow_pos (low f)) xs ys h)

sub_at : (f : Format) (x y : Float) (n m : ℕ) → m ≤ n → HasValue x false n (2 ^ low f) → HasValue y false m (2 ^ low f) → sub f x y ≡ at f (n - m)
unfolding sub add neg sum
sub_at f nan y n m h v w = absurd v
sub_at f (inf s) y n m h v w = absurd v
sub_at f (fin s a e) nan n m h v w = absurd w
sub_at f (fin s a e) (inf t) n m h v w = absurd w
sub_at f (fin s a e) (fin t b d) n m h v w =
    let l = 2 ^ low f in
    let c = down e * down d in
    let C : 0 < c = mul-pos (down_pos e) (down_pos d) in
    let x = a * up e * down d in
    let y = b * up d * down e in
    let xs = over_first (a * up e) (down e) (down d) n l v.1 in
    let ys = over_second (b * up d) (down e) (down d) m l w.1 in
    let test : ltb x y ≡ false = le-ltb x y (not_below_too x y c n m l C (pow_pos (low f)) xs ys h) in
    ap (λ (z : Bool). sub f (fin z a e) (fin t b d)) v.0
    ∙ ap (λ (z : Bool). sub f (fin false a e) (fin z b d)) w.0
    ∙ ap (λ (z : Bool). cond z (round f true (y - x) c) (round f false (x - y) c)) test
    ∙ round_same f false (x - y) c (n - m) l C (pow_pos (low f)) (same_difference x y c n m l C (pow_pos (low f)) xs ys)

add_at : (f : Format) (x : Float) (n : ℕ) → HasValue x false n (2 ^ low f) → add f x x ≡ at f (n + n)
unfolding add sum
add_at f nan n v = absurd v
add_at f (inf s) n v = absurd v
add_at f (fin s a e) n v =
    let l = 2 ^ low f in
    let c = down e * down e in
    let x = a * up e * down e in
    let xs = over_first (a * up e) (down e) (down e) n l v.1 in
    ap (λ (z : Bool). add f (fin z a e) (fin z a e)) v.0
    ∙ round_same f false (x + x) c (n + n) l (mul-pos (down_pos e) (down_pos e)) (pow_pos (low f))
    (add-mul x x l ∙ ap (λ (z : ℕ). z + z) xs ∙ sym (add-mul n n c))

lt_at : (f : Format) (x y : Float) (n m : ℕ) → HasValue x false n (2 ^ low f) → HasValue y false m (2 ^ low f) → lt x y ≡ ltb n m
unfolding lt
lt_at f nan y n m v w = absurd v
lt_at f (inf s) y n m v w = absurd v
lt_at f (fin s a e) nan n m v w = absurd w
lt_at f (fin s a e) (inf t) n m v w = absurd w
lt_at f (fin s a e) (fin t b d) n m v w =
    ap (λ (z : Bool). lt (fin z a e) (fin t b d)) v.0
    ∙ ap (λ (z : Bool). lt (fin false a e) (fin z b d)) w.0
    ∙ same_order (a * up e * down d) (b * up d * down e) (down e * down d) n m (2 ^ low f) (mul-pos (down_pos e) (down_pos d)) (pow_pos (low f))
    (over_first (a * up e) (down e) (down d) n (2 ^ low f) v.1) (over_second (b * up d) (down e) (down d) m (2 ^ low f) w.1)

-- ---- the steps of the function
two_times : (m p : ℕ) → m * (2 * p) ≡ (m + m) * p
two_times m p = grind arith

doubled : (m k : ℕ) → m * 2 ^ suc k ≡ (m + m) * 2 ^ k
doubled m k = ap (λ (z : ℕ). m * z) (pow-succ' 2 k) ∙ two_times m (2 ^ k)

twice_grid : (m q j : ℕ) → m ≡ q * 2 ^ j → m + m ≡ q * 2 ^ suc j
twice_grid m q j e = ap (λ (z : ℕ). z + z) e ∙ sym (add-mul q q (2 ^ j)) ∙ sym (doubled q j)

room_doubled : (m k top : ℕ) → m * 2 ^ suc k < top → (m + m) * 2 ^ k < top
room_doubled m k top h = subst (λ (z : ℕ). z < top) (doubled m k) h

fine_doubled : (m k top : ℕ) → m * 2 ^ suc k < top → m + m < top
fine_doubled m k top h = lt_of_le_of_lt (le-mul_of_pos_right (m + m) (pow_pos k)) (room_doubled m k top h)

doubled_grid : (m k : ℕ) → Grid binary64 m → m * 2 ^ suc k < 2 ^ (low binary64 + suc (emax binary64)) → Grid binary64 (m + m)
doubled_grid m k g r = record {
  q = g.q;
  j = suc g.j;
  is = twice_grid m g.q g.j g.is;
  few = g.few;
  fine = fine_doubled m k (2 ^ (low binary64 + suc (emax binary64))) r;
}

-- y doubled, with one doubling less to come
pub further : (x y : Float) (k : ℕ) → Halves x y (suc k) → Halves x (add binary64 y y) k
further x y k h = record {
  n = h.n;
  m = h.m + h.m;
  grid_n = h.grid_n;
  grid_m = doubled_grid h.m k h.grid_m h.room;
  x_is = h.x_is;
  y_is = subst (λ (z : Float). add binary64 z z ≡ at binary64 (h.m + h.m)) (sym h.y_is) (add_at binary64 (at binary64 h.m) h.m (at_value binary64 h.m h.grid_m));
  some = more h.m h.some;
  room = room_doubled h.m k (2 ^ (low binary64 + suc (emax binary64))) h.room;
  past = subst (λ (z : ℕ). h.n < z) (doubled h.m (suc k)) h.past;
}
  where
    more : (m : ℕ) → 0 < m → 0 < m + m
    more m l = omega arith

module _ (x y : Float) (k : ℕ) (h : Halves x y k) where
  vx : HasValue x false h.n (2 ^ low binary64)
  vx = subst (λ (z : Float). HasValue z false h.n (2 ^ low binary64)) (sym h.x_is) (at_value binary64 h.n h.grid_n)

  vy : HasValue y false h.m (2 ^ low binary64)
  vy = subst (λ (z : Float). HasValue z false h.m (2 ^ low binary64)) (sym h.y_is) (at_value binary64 h.m h.grid_m)

  remainder_is : rem binary64 x y ≡ at binary64 (h.n % h.m)
  remainder_is = rem_at binary64 x y h.n h.m h.some vx vy

  -- r counts n % (2 m), whatever was done to find it
  r_value : (r : Float) → Grid binary64 (h.n % (h.m + h.m)) → r ≡ at binary64 (h.n % (h.m + h.m)) → HasValue r false (h.n % (h.m + h.m)) (2 ^ low binary64)
  r_value r g e = subst (λ (z : Float). HasValue z false (h.n % (h.m + h.m)) (2 ^ low binary64)) (sym e) (at_value binary64 (h.n % (h.m + h.m)) g)

  -- x is below y
  pub itself : lt x y ≡ true → x ≡ rem binary64 x y
  itself t = h.x_is ∙ ap (at binary64) (sym (mod-eq_of_lt (ltb_says h.n h.m (sym (lt_at binary64 x y h.n h.m vx vy) ∙ t)))) ∙ sym remainder_is

  below : (r : Float) → Grid binary64 (h.n % (h.m + h.m)) → r ≡ at binary64 (h.n % (h.m + h.m)) → lt r y ≡ true → r ≡ rem binary64 x y
  below r g e t =
      e
      ∙ ap (at binary64) (below_half h.n h.m h.some (ltb_says (h.n % (h.m + h.m)) h.m (sym (lt_at binary64 r y (h.n % (h.m + h.m)) h.m (r_value r g e) vy) ∙ t)))
      ∙ sym remainder_is

  over : (r : Float) → Grid binary64 (h.n % (h.m + h.m)) → r ≡ at binary64 (h.n % (h.m + h.m)) → lt r y ≡ false → sub binary64 r y ≡ rem binary64 x y
  over r g e t =
      let l : h.m ≤ h.n % (h.m + h.m) = ltb_denies (h.n % (h.m + h.m)) h.m (sym (lt_at binary64 r y (h.n % (h.m + h.m)) h.m (r_value r g e) vy) ∙ t) in
      sub_at binary64 r y (h.n % (h.m + h.m)) h.m l (r_value r g e) vy ∙ ap (at binary64) (over_half h.n h.m h.some l) ∙ sym remainder_is

-- no doubling is left: twice y is above x
past_twice : (n m : ℕ) → n < m * 2 ^ 1 → n < m + m
past_twice n m h = omega arith

pub last : (x y : Float) → Halves x y 0 → lt x y ≡ false → sub binary64 x y ≡ rem binary64 x y
last x y h t =
    let l : h.n % (h.m + h.m) ≡ h.n = mod-eq_of_lt (past_twice h.n h.m h.past) in
    over x y 0 h x (subst (Grid binary64) (sym l) h.grid_n) (h.x_is ∙ ap (at binary64) (sym l)) t

-- r is what twice y leaves
twice_leaves : (x y : Float) (k : ℕ) (h : Halves x y (suc k)) (r : Float) → r ≡ rem binary64 x (add binary64 y y) → r ≡ at binary64 (h.n % (h.m + h.m))
unfolding further
twice_leaves x y k h r e = e ∙ remainder_is x (add binary64 y y) k (further x y k h)

left_grid : (x y : Float) (k : ℕ) (h : Halves x y (suc k)) → Grid binary64 (h.n % (h.m + h.m))
unfolding further
left_grid x y k h = grid_mod binary64 h.n (h.m + h.m) (further x y k h).some h.grid_n (doubled_grid h.m k h.grid_m h.room)

pub kept : (x y : Float) (k : ℕ) → Halves x y (suc k) → (r : Float) → r ≡ rem binary64 x (add binary64 y y) → lt r y ≡ true → r ≡ rem binary64 x y
kept x y k h r e t = below x y (suc k) h r (left_grid x y k h) (twice_leaves x y k h r e) t

pub once_more : (x y : Float) (k : ℕ) → Halves x y (suc k) → (r : Float) → r ≡ rem binary64 x (add binary64 y y) → lt r y ≡ false → sub binary64 r y ≡ rem binary64 x y
once_more x y k h r e t = over x y (suc k) h r (left_grid x y k h) (twice_leaves x y k h r e) t

-- ---- by a whole turn
-- twice the f64 nearest pi
abbrev pub turn : Float
turn = fin false 884279719003555 (negsuc 46)

turn_count : ℕ
turn_count = 884279719003555 * 2 ^ 1027

turn_grid : Grid binary64 turn_count
unfolding turn_count
turn_grid = record { q = 884279719003555; j = 1027; is = refl; few = lit< tt; fine = lit< tt }

turn_is : turn ≡ at binary64 turn_count
unfolding turn_count fits
turn_is = at_of_value binary64 turn turn_count turn_grid tt (refl, refl)

-- every magnitude is below the turn doubled 1022 times
turns : (x : Float) → Counted binary64 x → Halves x turn 1021
unfolding turn_count
turns x c = record {
  n = c.n;
  m = turn_count;
  grid_n = c.grid;
  grid_m = turn_grid;
  x_is = c.is;
  y_is = turn_is;
  some = lit< tt;
  room = lit< tt;
  past = lt_of_lt_of_le c.grid.fine (lit≤ tt);
}

pub starts : (a : Float) → T (fits binary64 (magnitude a)) → lt (magnitude a) (inf false) ≡ true → Halves (magnitude a) turn 1021
unfolding magnitude lt
starts nan h t = absurd (true≢false (sym t))
starts (inf s) h t = absurd (true≢false (sym t))
starts (fin s m e) h t = turns (fin false m e) (counted binary64 m e h)

-- an infinity and a NaN have no remainder
pub endless : (a : Float) → lt (magnitude a) (inf false) ≡ false → sub binary64 (magnitude a) (magnitude a) ≡ rem binary64 (magnitude a) turn
unfolding magnitude lt sub add neg rem
endless nan t = refl
endless (inf s) t = refl
endless (fin s m e) t = absurd (true≢false t)

-- Bounds that go through `round`: a fraction that is at most a / c, which the format holds, rounds to a value that is at most a / c. Assumes nothing.
use mathlib.Core.Path.{◌≡◌, refl, sym, subst}
use mathlib.Core.Logic.{◌⊎◌, inl, inr}
use mathlib.Core.Bool.{Bool, true, false, ◌&&◌, ◌||◌, cond, true≢false}
use Prim.Native.Nat.{ℕ, zero, suc, ◌+◌, ◌*◌, ◌^◌, ◌≤◌, ◌<◌}
use native.Mathlib.Nat.{le_of_eq, le_of_lt}
use lib.Dec.{T, ltb, eqb, ltb→lt, eqb→eq, nltb→le}
use lib.IntN.{ℤ}
use lib.Ieee.{Float, nan, inf, fin, Format, prec, emax, low, up, down, round, units, odd, le, lt}
use lib.Ieee.Fits.{and_l, down_pos, round_is}
use lib.Ieee.Bits.{is_true}
use lib.Ieee.Exact.{HasValue}
use lib.Ieee.Order.{le_of_values, round_mono, transfer, drop, kept}
use Rattle.math.proofs.Pick.{failed}

-- ---- what is rounded with the sign + has that sign
abbrev pub Plain : Float → Type 0
Plain nan = ⊥
Plain (inf s) = s ≡ false
Plain (fin s m e) = s ≡ false

odd_plain : (d q k l : ℕ) → Plain (odd d false q k l)
unfolding odd
odd_plain d zero k l = refl
odd_plain d (suc q) k l = refl

units_plain : (f : Format) (q k : ℕ) → Plain (units f false q k)
unfolding units
units_plain f q k = go (ltb (q * 2 ^ k) (2 ^ (low f + suc (emax f))))
  where
    go : (b : Bool) → Plain (cond b (odd (suc (prec f)) false q k (low f)) (inf false))
    go true = odd_plain (suc (prec f)) q k (low f)
    go false = refl

pub round_plain : (f : Format) (a c : ℕ) → Plain (round f false a c)
round_plain f a c = subst Plain (sym (round_is f false a c)) (units_plain f (kept (prec f) (a * 2 ^ low f) c) (drop (prec f) (a * 2 ^ low f) c))

-- ---- an order of two values that are not negative, as one of fractions
or_split : (a b : Bool) → T (a || b) → T a ⊎ T b
or_split true b t = inl tt
or_split false b t = inr t

less_or_same : (a b : ℕ) → T (ltb a b || (eqb a b && true)) → a ≤ b
less_or_same a b t = elim (or_split (ltb a b) (eqb a b && true) t) [ inl u ↦ le_of_lt (ltb→lt a b u) | inr u ↦ le_of_eq (eqb→eq a b (and_l (eqb a b) true u)) ]

cross : (m : ℕ) (e : ℤ) (n : ℕ) (d : ℤ) → T (le (fin false m e) (fin false n d)) → m * up e * down d ≤ n * up d * down e
unfolding le
cross m e n d t = less_or_same (m * up e * down d) (n * up d * down e) t

-- ---- finite, with the sign +, and at most a / c
abbrev pub AtMost : Float → ℕ → ℕ → Type 0
AtMost nan a c = ⊥
AtMost (inf s) a c = ⊥
AtMost (fin s m e) a c = (s ≡ false) × (m * up e * c ≤ a * down e)

-- from the order of x / dx and y / dy, with y / dy equal to a / c
through : (x dx y dy a c : ℕ) → 0 < dx → 0 < dy → y * c ≡ a * dy → x * dy ≤ y * dx → x * c ≤ a * dx
through x dx y dy a c X Y v h = transfer x a dx c x y dx dy X Y refl (sym v) h

at_most : (y v : Float) (a c : ℕ) → Plain y → HasValue v false a c → T (le y v) → AtMost y a c
unfolding le
at_most nan v a c p w h = absurd p
at_most (inf true) v a c p w h = absurd (true≢false p)
at_most (inf false) nan a c p w h = absurd w
at_most (inf false) (inf t) a c p w h = absurd w
at_most (inf false) (fin t n d) a c p w h = absurd h
at_most (fin true m e) v a c p w h = absurd (true≢false p)
at_most (fin false m e) nan a c p w h = absurd w
at_most (fin false m e) (inf t) a c p w h = absurd w
at_most (fin false m e) (fin true n d) a c p w h = absurd (true≢false w.0)
at_most (fin false m e) (fin false n d) a c p w h = (refl, through (m * up e) (down e) (n * up d) (down d) a c (down_pos e) (down_pos d) w.1 (cross m e n d h))

-- the same from a test `v < y` that failed
pub not_above : (y v : Float) (a c : ℕ) → Plain y → HasValue v false a c → lt v y ≡ false → AtMost y a c
unfolding lt
not_above nan v a c p w h = absurd p
not_above (inf true) v a c p w h = absurd (true≢false p)
not_above (inf false) nan a c p w h = absurd w
not_above (inf false) (inf t) a c p w h = absurd w
not_above (inf false) (fin t n d) a c p w h = absurd (true≢false h)
not_above (fin true m e) v a c p w h = absurd (true≢false p)
not_above (fin false m e) nan a c p w h = absurd w
not_above (fin false m e) (inf t) a c p w h = absurd w
not_above (fin false m e) (fin true n d) a c p w h = absurd (true≢false w.0)
not_above (fin false m e) (fin false n d) a c p w h = (
  refl,
  through (m * up e) (down e) (n * up d) (down d) a c (down_pos e) (down_pos d) w.1
      (nltb→le (n * up d * down e) (m * up e * down d) (failed h)),
)

-- ---- and back: what is at most a / c is so by the test
pub is_le : (y v : Float) (a c : ℕ) → 0 < c → HasValue v false a c → AtMost y a c → le y v ≡ true
is_le nan v a c C w h = absurd h
is_le (inf s) v a c C w h = absurd h
is_le (fin true m e) v a c C w h = absurd (true≢false h.0)
is_le (fin false m e) v a c C w h = is_true _ (le_of_values (fin false m e) v (m * up e) (down e) a c (down_pos e) C (refl, refl) w h.1)

-- ---- a bound goes through `round`
pub round_at_most : (f : Format) (p q a c : ℕ) → 0 < q → 0 < c → HasValue (round f false a c) false a c → p * c ≤ a * q → AtMost (round f false p q) a c
round_at_most f p q a c Q C v h = at_most (round f false p q) (round f false a c) a c (round_plain f p q) v (round_mono f p q a c Q C h)

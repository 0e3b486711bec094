-- The sign of a float: how rounding and |..| go with it, and where a pattern holds it. Assumes nothing.
use mathlib.Core.Path.{◌≡◌, refl, sym, ap, ◌∙◌}
use mathlib.Core.Bool.{Bool, true, false, cond, true≢false}
use Prim.Native.Nat.{ℕ, zero, suc, ◌+◌, ◌*◌, ◌/◌, ◌%◌, ◌^◌, ◌≤◌, ◌<◌}
use native.Mathlib.Omega.{arith}
use lib.Dec.{T, leb, ltb, eqb, le→leb}
use lib.Ieee.{Float, nan, inf, fin, Format, binary64, prec, emax, low, ones, hid, odd, units, round, neg, is_nan, fits, of_fields, of_bits, to_bits}
use lib.Ieee.Fits.{round_is}
use lib.Ieee.Bits.{is_true, is_false, of_bits-to_bits}
use lib.Arith.{lt→nleb}
use lib.Ieee.Order.{drop, kept}
use Rattle.math.specs.Sign.{magnitude, times_sign}
use Rattle.math.proofs.Pick.{on_true, on_false}
use Rattle.math.proofs.Rounded.{Plain, round_plain}

-- ---- what is rounded with the sign s is what is rounded with the sign +, negated where s is -
odd_sign : (d : ℕ) (s : Bool) (q k l : ℕ) → odd d s q k l ≡ cond s (neg (odd d false q k l)) (odd d false q k l)
unfolding odd neg
odd_sign d true zero k l = refl
odd_sign d true (suc q) k l = refl
odd_sign d false q k l = refl

units_sign : (f : Format) (s : Bool) (q k : ℕ) → units f s q k ≡ cond s (neg (units f false q k)) (units f false q k)
unfolding units neg
units_sign f false q k = refl
units_sign f true q k = go (ltb (q * 2 ^ k) (2 ^ (low f + suc (emax f))))
  where
    go : (b : Bool) → cond b (odd (suc (prec f)) true q k (low f)) (inf true) ≡ neg (cond b (odd (suc (prec f)) false q k (low f)) (inf false))
    go true = odd_sign (suc (prec f)) true q k (low f)
    go false = refl

pub round_sign : (f : Format) (s : Bool) (a c : ℕ) → round f s a c ≡ cond s (neg (round f false a c)) (round f false a c)
round_sign f s a c =
    let q = kept (prec f) (a * 2 ^ low f) c in
    let k = drop (prec f) (a * 2 ^ low f) c in
    round_is f s a c ∙ units_sign f s q k ∙ ap (λ (x : Float). cond s (neg x) x) (sym (round_is f false a c))

-- ---- |..| takes the sign off again
magnitude_signed : (s : Bool) (x : Float) → Plain x → magnitude (cond s (neg x) x) ≡ x
unfolding magnitude neg
magnitude_signed s nan p = absurd p
magnitude_signed s (inf true) p = absurd (true≢false p)
magnitude_signed true (inf false) p = refl
magnitude_signed false (inf false) p = refl
magnitude_signed s (fin true m e) p = absurd (true≢false p)
magnitude_signed true (fin false m e) p = refl
magnitude_signed false (fin false m e) p = refl

pub round_magnitude : (f : Format) (s : Bool) (a c : ℕ) → magnitude (round f s a c) ≡ round f false a c
round_magnitude f s a c = ap magnitude (round_sign f s a c) ∙ magnitude_signed s (round f false a c) (round_plain f a c)

pub magnitude_plain : (x : Float) → is_nan x ≡ false → Plain (magnitude x)
unfolding magnitude is_nan
magnitude_plain nan h = absurd (true≢false h)
magnitude_plain (inf s) h = refl
magnitude_plain (fin s m e) h = refl

-- |a| is a times its own sign
pub own_sign : (a : Float) → times_sign a a ≡ magnitude a
unfolding times_sign magnitude neg
own_sign nan = refl
own_sign (inf true) = refl
own_sign (inf false) = refl
own_sign (fin true m e) = refl
own_sign (fin false m e) = refl

-- ---- the sign in a pattern
odd_times : (d : ℕ) (s : Bool) (q k l : ℕ) (v : Float) → times_sign (odd d s q k l) v ≡ cond s (neg v) v
unfolding odd times_sign
odd_times d s zero k l v = refl
odd_times d s (suc q) k l v = refl

odd_magnitude : (d : ℕ) (s : Bool) (q k l : ℕ) → magnitude (odd d s q k l) ≡ odd d false q k l
unfolding odd magnitude
odd_magnitude d s zero k l = refl
odd_magnitude d s (suc q) k l = refl

fields_times : (f : Format) (s : Bool) (x t : ℕ) (v : Float) → is_nan (of_fields f s x t) ≡ false → times_sign (of_fields f s x t) v ≡ cond s (neg v) v
unfolding of_fields times_sign is_nan
fields_times f s zero t v h = odd_times (prec f) s t 0 (low f) v
fields_times f s (suc x) t v h = go (eqb (suc x) (ones f)) (eqb t 0) h
  where
    go : (b z : Bool) → is_nan (cond b (cond z (inf s) nan) (odd (prec f) s (hid f + t) x (low f))) ≡ false
        → times_sign (cond b (cond z (inf s) nan) (odd (prec f) s (hid f + t) x (low f))) v ≡ cond s (neg v) v
    go true true h = refl
    go true false h = absurd (true≢false h)
    go false z h = odd_times (prec f) s (hid f + t) x (low f) v

fields_magnitude : (f : Format) (s : Bool) (x t : ℕ) → magnitude (of_fields f s x t) ≡ of_fields f false x t
unfolding of_fields magnitude
fields_magnitude f s zero t = odd_magnitude (prec f) s t 0 (low f)
fields_magnitude f s (suc x) t = go (eqb (suc x) (ones f)) (eqb t 0)
  where
    go : (b z : Bool) → magnitude (cond b (cond z (inf s) nan) (odd (prec f) s (hid f + t) x (low f))) ≡ cond b (cond z (inf false) nan) (odd (prec f) false (hid f + t) x (low f))
    go true true = refl
    go true false = refl
    go false z = odd_magnitude (prec f) s (hid f + t) x (low f)

-- the highest bit of a's pattern is its sign
by_pattern : (a v : Float) → T (fits binary64 a) → is_nan a ≡ false → times_sign a v ≡ cond (leb (2 ^ 63) (to_bits binary64 a)) (neg v) v
unfolding of_bits
by_pattern a v f real =
    let n = to_bits binary64 a in
    let is : of_bits binary64 n ≡ a = of_bits-to_bits binary64 a f in
    ap (λ (x : Float). times_sign x v) (sym is) ∙ fields_times binary64 (leb (2 ^ 63) n) (n % 2 ^ 63 / 2 ^ 52) (n % 2 ^ 52) v (ap is_nan is ∙ real)

pub plus_pattern : (a v : Float) → T (fits binary64 a) → is_nan a ≡ false → to_bits binary64 a < 2 ^ 63 → v ≡ times_sign a v
plus_pattern a v f real h = let n = to_bits binary64 a in on_false (neg v) v (is_false (leb (2 ^ 63) n) (lt→nleb (2 ^ 63) n h)) ∙ sym (by_pattern a v f real)

pub minus_pattern : (a v : Float) → T (fits binary64 a) → is_nan a ≡ false → 2 ^ 63 ≤ to_bits binary64 a → neg v ≡ times_sign a v
minus_pattern a v f real h = let n = to_bits binary64 a in on_true (neg v) v (is_true (leb (2 ^ 63) n) (le→leb (2 ^ 63) n h)) ∙ sym (by_pattern a v f real)

-- the other bits are the pattern of |a|
pub rest_pattern : (n : ℕ) → of_bits binary64 (n % 2 ^ 63) ≡ magnitude (of_bits binary64 n)
unfolding of_bits
rest_pattern n =
    let r = n % 2 ^ 63 in
    let same : r % 2 ^ 63 ≡ r = omega arith in
    let digits : r % 2 ^ 52 ≡ n % 2 ^ 52 = omega arith in
    ap (λ (s : Bool). of_fields binary64 s (r % 2 ^ 63 / 2 ^ 52) (r % 2 ^ 52)) (is_false (leb (2 ^ 63) r) (lt→nleb (2 ^ 63) r (omega arith)))
    ∙ ap (λ (x : ℕ). of_fields binary64 false (x / 2 ^ 52) (r % 2 ^ 52)) same
    ∙ ap (λ (x : ℕ). of_fields binary64 false (r / 2 ^ 52) x) digits
    ∙ sym (fields_magnitude binary64 (leb (2 ^ 63) n) (r / 2 ^ 52) (n % 2 ^ 52))

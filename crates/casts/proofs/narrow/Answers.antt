-- `casts::narrow` meets its contract: |x| goes through `narrow_pattern`, and the sign of x is put back, which rounding does not look at.
-- Assumes nothing.
use Rattle.std.proofs.Common.{◌≡◌, ◌*◌, ◌%◌, ◌^◌, ◌≤◌, Bool, true, false, T, ltb, sym, refl, ap, ◌∙◌, subst, arith, nltb→le}
use lib.Ieee.{Float, nan, inf, fin, binary32, binary64, up, down, round, div, neg, is_nan, fits, of_bits, to_bits}
use lib.Ieee.Fits.{nan-fits, inf-fits, round-fits}
use lib.Ieee.Bits.{of_bits-to_bits, to_bits-lt, nan_bits_is, nan_bits_above}
use Rattle.casts.specs.Narrowed.{narrowed}
use Rattle.math.specs.Sign.{magnitude, times_sign}
use Rattle.math.proofs.Rounded.{Plain, round_plain}
use Rattle.math.proofs.Pick.{passed, failed}
use Rattle.math.proofs.Real.{unreal, real, plain_real}
use Rattle.math.proofs.Sign.{round_sign, magnitude_plain, rest_pattern, plus_pattern, minus_pattern}
use Rattle.casts.proofs.narrow.Goals as goal

-- ---- what owning an `f64` tells: the format holds it. And it is no NaN once the first test has failed
held : (c : goal.Else-x) → T (fits binary64 c.args.x)
held c = passed c.well_formed.0.1

not-nan : (c : goal.Else-x) → is_nan c.args.x ≡ false
not-nan c = real c.args.x c.if-x.false

-- ---- x narrowed is |x| narrowed, with the sign of x
narrowed-signed : (x : Float) → narrowed x ≡ times_sign x (narrowed (magnitude x))
unfolding narrowed magnitude times_sign neg
narrowed-signed nan = refl
narrowed-signed (inf true) = refl
narrowed-signed (inf false) = refl
narrowed-signed (fin s m e) = round_sign binary32 s (m * up e) (down e)

narrowed-fits : (x : Float) → T (fits binary32 (narrowed x))
unfolding narrowed
narrowed-fits nan = nan-fits binary32
narrowed-fits (inf s) = inf-fits binary32 s
narrowed-fits (fin s m e) = round-fits binary32 s (m * up e) (down e)

narrowed-plain : (x : Float) → Plain x → Plain (narrowed x)
unfolding narrowed
narrowed-plain nan p = absurd p
narrowed-plain (inf s) p = p
narrowed-plain (fin s m e) p = subst (λ (t : Bool). Plain (round binary32 t (m * up e) (down e))) (sym p) (round_plain binary32 (m * up e) (down e))

-- ---- the pattern of |x|
rest_le : (x : Float) → T (fits binary64 x) → is_nan x ≡ false → to_bits binary64 x % 2 ^ 63 ≤ 2047 * 2 ^ 52
rest_le x f h =
    let n = to_bits binary64 x in
    let e : ltb (2047 * 2 ^ 52) (n % 2 ^ 63) ≡ false = sym (nan_bits_above binary64 n) ∙ nan_bits_is binary64 n ∙ ap is_nan (of_bits-to_bits binary64 x f) ∙ h in
    nltb→le (2047 * 2 ^ 52) (n % 2 ^ 63) (failed e)

-- what `narrow_pattern` answers for it is the pattern of |x| narrowed
pattern-is : (c : goal.After-narrow_pattern) → c.narrow_pattern.result ≡ to_bits binary32 (narrowed (magnitude c.args.x))
pattern-is c =
    let x = c.args.x in
    c.narrow_pattern.ensures ∙ ap (λ (z : Float). to_bits binary32 (narrowed z)) (rest_pattern (to_bits binary64 x) ∙ ap magnitude (of_bits-to_bits binary64 x (held c.before)))

size_is : (c : goal.After-narrow_pattern) → of_bits binary32 c.narrow_pattern.result ≡ narrowed (magnitude c.args.x)
size_is c =
    let z = magnitude c.args.x in
    ap (of_bits binary32) (pattern-is c) ∙ of_bits-to_bits binary32 (narrowed z) (narrowed-fits z)

pub returns-then-x : goal.returns-then-x
unfolding div of_bits narrowed
returns-then-x c = sym (ap narrowed (unreal c.args.x c.if-x.true))

pub float_to_bits-bits : goal.float_to_bits-bits
float_to_bits-bits c = failed (not-nan c)

pub narrow_pattern-requires : goal.narrow_pattern-requires
narrow_pattern-requires c = rest_le c.args.x (held c) (not-nan c)

pub overflow_cast-size : goal.overflow_cast-size
overflow_cast-size c =
    let z = magnitude c.args.x in
    omega (arith, pattern-is c, to_bits-lt binary32 (narrowed z) (narrowed-fits z))

pub float_from_bits-size : goal.float_from_bits-size
float_from_bits-size c =
    let x = c.args.x in
    let z = magnitude x in
    failed (nan_bits_is binary32 c.narrow_pattern.result ∙ ap is_nan (size_is c) ∙ plain_real (narrowed z) (narrowed-plain z (magnitude_plain x (not-nan c.before))))

pub returns-then-bits-lt-SIGN_64 : goal.returns-then-bits-lt-SIGN_64
returns-then-bits-lt-SIGN_64 c =
    size_is c.before ∙ plus_pattern c.args.x _ (held c.before.before) (not-nan c.before.before) c.if-bits-lt-SIGN_64.true ∙ sym (narrowed-signed c.args.x)

pub returns : goal.returns
returns c =
    ap neg (size_is c.before) ∙ minus_pattern c.args.x _ (held c.before.before) (not-nan c.before.before) c.if-bits-lt-SIGN_64.false ∙ sym (narrowed-signed c.args.x)

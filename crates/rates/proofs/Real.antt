-- With finite bandwidths the cutoff is no NaN: it is a bandwidth, or what rounding gives, and rounding gives none. Assumes nothing.
use mathlib.Core.Path.{◌≡◌, refl, sym}
use mathlib.Core.Bool.{Bool, true, false, cond, true≢false}
use Prim.Native.Nat.{ℕ, ◌*◌, ◌≤◌, ◌<◌}
use native.Mathlib.Omega.{arith}
use borrow.Author.Tests.{ne_eqb}
use lib.Dec.{T, ltb, ltb→lt}
use lib.Ieee.{Float, nan, inf, fin, binary32, is_nan, mul, div, of_int, up, down, unlike}
use lib.Ieee.Back.{round_whole}
use lib.Ieee.Positive.{positive, positive_of_value}
use lib.Ieee.Scale.{finite}
use Rattle.math.specs.Numerals.{as_f32}
use Rattle.math.specs.Operators.{◌*ᶠ◌, ◌/ᶠ◌}
use Rattle.math.proofs.Real.{finite_real, round_real}
use Rattle.sizes.specs.Sizes.{RatioInLimits}
use Rattle.quality.specs.Quality.{Sane}
use Rattle.rates.specs.Setting.{cutoff_of}
use Rattle.quality.specs.declared.QualityMapping.{QualityMapping}

either : (t : Bool) (x y : Float) → is_nan x ≡ false → is_nan y ≡ false → is_nan (cond t x y) ≡ false
either true x y p q = p
either false x y p q = q

-- ---- a finite number times a positive one, and any number over a positive one
mul_real : (x y : Float) → finite x ≡ true → T (positive y) → is_nan (x *ᶠ y) ≡ false
unfolding mul
mul_real nan y p q = absurd (true≢false (sym p))
mul_real (inf u) y p q = absurd (true≢false (sym p))
mul_real (fin u m e) nan p q = absurd q
mul_real (fin u m e) (inf v) p q = absurd q
mul_real (fin u m e) (fin v n g) p q = round_real binary32 (unlike u v) (m * up e * (n * up g)) (down e * down g)

div_real : (x y : Float) → is_nan x ≡ false → T (positive y) → is_nan (x /ᶠ y) ≡ false
unfolding div is_nan
div_real nan y p q = p
div_real (inf u) nan p q = absurd q
div_real (inf u) (inf v) p q = absurd q
div_real (inf u) (fin v n g) p q = refl
div_real (fin u m e) nan p q = absurd q
div_real (fin u m e) (inf v) p q = absurd q
div_real (fin u m e) (fin true n g) p q = absurd q
div_real (fin u m e) (fin false n g) p q =
    let above : 0 < n = ltb→lt 0 n q in
    simp (ne_eqb n 0 (λ z. omega arith)) (round_real binary32 (unlike u false) (m * up e * down g) (n * up g * down e))

-- ---- the cutoff
whole_positive : (n : ℕ) → 1 ≤ n → n ≤ 192000 → T (positive (as_f32 n))
unfolding of_int
whole_positive n h k = positive_of_value (as_f32 n) n 1 (round_whole binary32 false n (omega arith)) h

pub cutoff_real : (row : QualityMapping) → Sane row → (num den : ℕ) → RatioInLimits num den
    → is_nan (cutoff_of row num den) ≡ false
unfolding cutoff_of
cutoff_real row sane num den r =
    let down = row.downsample_bandwidth in
    let up = row.upsample_bandwidth in
    let scaled : is_nan (down *ᶠ as_f32 den) ≡ false = mul_real down (as_f32 den) sane.down (whole_positive den r.den_from r.den_to) in
    either (ltb den num) (down *ᶠ as_f32 den /ᶠ as_f32 num) up
    (div_real (down *ᶠ as_f32 den) (as_f32 num) scaled (whole_positive num r.num_from r.num_to))
    (finite_real up sane.up)

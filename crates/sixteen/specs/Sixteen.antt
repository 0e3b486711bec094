-- Document 01, "Small program": between signed 16-bit samples and f32, in exact arithmetic. A finite float `fin s m e` is the exact fraction
-- m * up e / down e, negative where s is true. Assumes nothing.
use Rattle.std.specs.Prelude.{ℕ, suc, ◌+◌, ◌-◌, ◌*◌, ◌/◌, min, Bool, true, false, cond, ℤ, pos, negsuc, neg_ℤ, nat_lt, Float}
use Rattle.std.specs.Float.{nan, inf, fin, binary32}
use Rattle.std.specs.Float.Ieee.{up, down, round}

-- sixteen bits as a sample, in two's complement, and back
unfoldable pub sample_of : ℕ → ℤ
sample_of w = cond (nat_lt w 32768) (pos w) (negsuc (65535 - w))

unfoldable pub word_of : ℤ → ℕ
word_of (pos n) = n
word_of (negsuc n) = 65535 - n

-- a sample divided by 32768: a fraction that an f32 holds exactly (`from_exact` of proofs/From.antt)
unfoldable pub from_i16 : ℤ → Float
unfolding round
from_i16 (pos n) = round binary32 false n 32768
from_i16 (negsuc n) = round binary32 true (suc n) 32768

-- a / c to the nearest whole number, a half up
abbrev pub half_up : ℕ → ℕ → ℕ
half_up a c = (2 * a + c) / (2 * c)

-- a magnitude with its sign, clamped to -32768..32767
abbrev pub clamped : Bool → ℕ → ℤ
clamped true n = neg_ℤ (pos (min n 32768))
clamped false n = pos (min n 32767)

-- a float times 32768, to the nearest whole number, halves away from zero; NaN gives 0
unfoldable pub to_i16 : Float → ℤ
to_i16 nan = pos 0
to_i16 (inf s) = clamped s 32768
to_i16 (fin s m e) = clamped s (half_up (m * up e * 32768) (down e))

-- its magnitude alone, at most 32768
unfoldable pub step_count : Float → ℕ
step_count nan = 0
step_count (inf s) = 32768
step_count (fin s m e) = min (half_up (m * up e * 32768) (down e)) 32768

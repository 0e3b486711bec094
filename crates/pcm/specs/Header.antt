-- Document 01, "Small program" and "Refusal numbers": the mark `DVS`, a 16-bit version, the source rate and the target rate as 32-bit numbers, all
-- little-endian: 13 bytes. Refused 8 where the header is short or has another mark, 9 where the version is not 1, 1 where a rate is out of limits, in
-- that order. Assumes nothing.
use Rattle.std.specs.Prelude.{ℕ, ◌+◌, ◌*◌, Bool, cond, not, ◌&&◌, ◌||◌, List, eqb, ltb, length, get_or, Result, Ok, Err}
use Rattle.sizes.specs.Sizes.{in_limits}
use Rattle.judge.specs.declared.Refusal.{Refusal}
use Rattle.judge.specs.declared.Refusal.TheVariants.{Rate, Mark, Version}
use Rattle.pcm.specs.declared.Rates.{Rates}

-- how long a header is
abbrev pub header_length : ℕ
header_length = 13

-- the byte at i
abbrev pub byte_at : List ℕ → ℕ → ℕ
byte_at bytes i = get_or bytes i 0

-- the 16 and the 32 bits from byte i on, the low byte first
abbrev pub word16 : List ℕ → ℕ → ℕ
word16 bytes i = byte_at bytes i + 256 * byte_at bytes (i + 1)

abbrev pub word32 : List ℕ → ℕ → ℕ
word32 bytes i = word16 bytes i + 65536 * word16 bytes (i + 2)

-- bytes 0 to 2 are `DVS`
unfoldable pub has_mark : List ℕ → Bool
has_mark bytes = eqb (byte_at bytes 0) 68 && (eqb (byte_at bytes 1) 86 && eqb (byte_at bytes 2) 83)

-- the versions that are known
unfoldable pub known_version : ℕ → Bool
known_version version = eqb version 1

-- what the first bytes of a file say
unfoldable pub header_of : List ℕ → Result Rates Refusal
header_of bytes =
    cond (ltb (length bytes) header_length || not (has_mark bytes)) (Err Mark)
    (cond (not (known_version (word16 bytes 3))) (Err Version)
    (cond (not (in_limits (word32 bytes 5)) || not (in_limits (word32 bytes 9))) (Err Rate)
    (Ok (record { source = word32 bytes 5; target = word32 bytes 9 }))))

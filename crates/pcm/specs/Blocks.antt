-- Document 01, "Small program": blocks of bytes as samples, and back, two little-endian bytes each. Assumes nothing.
use Rattle.std.specs.Prelude.{◌≡◌, List, [], ◌∷◌, ◌++◌, ℕ, ◌+◌, ◌*◌, ◌/◌, ◌%◌, ◌≤◌, min, Float, length, take, drop}
use Rattle.sixteen.specs.Sixteen.{sample_of, word_of, from_i16, to_i16}

-- the samples of a block, as f32. A last odd byte is dropped
abbrev pub samples_of : List ℕ → List Float
samples_of [] = []
samples_of (low ∷ []) = []
samples_of (low ∷ high ∷ bytes) = from_i16 (sample_of (low + 256 * high)) ∷ samples_of bytes

-- the two bytes of a sample, the low one first
abbrev pub low_of : Float → ℕ
low_of x = word_of (to_i16 x) % 256

abbrev pub high_of : Float → ℕ
high_of x = word_of (to_i16 x) / 256

-- the bytes of a block of f32
abbrev pub bytes_of : List Float → List ℕ
bytes_of [] = []
bytes_of (x ∷ xs) = low_of x ∷ high_of x ∷ bytes_of xs

-- `made` is laid at the start of a lent slice, which keeps what lies past it
abbrev pub laid_over : {A : Type 0} → List A → List A → List A
laid_over made out = made ++ drop (length made) out

-- a block decoded into `out`: as many whole samples as there are and as fit, n of them. The last two fields follow from the others, and are what a
-- caller's `&out[..n]` asks
pub record Decodes (bytes : List ℕ) (out out' : List Float) (n : ℕ) : Type 0 where
  pub count : n ≡ min (length bytes / 2) (length out)
  pub laid : out' ≡ laid_over (take n (samples_of bytes)) out
  pub within : n ≤ length out'
  pub whole : n ≡ length (take n out')

-- a block encoded into `out`: as many samples as there are and as fit whole, in n bytes
pub record Encodes (xs : List Float) (out out' : List ℕ) (n : ℕ) : Type 0 where
  pub count : n ≡ 2 * min (length xs) (length out / 2)
  pub laid : out' ≡ laid_over (bytes_of (take (n / 2) xs)) out
  pub within : n ≤ length out'
  pub whole : n ≡ length (take n out')

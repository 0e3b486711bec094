-- Blocks of bytes and of samples: how long they are, a block in two parts, its first entries, and one entry. Assumes nothing.
use mathlib.Core.Path.{◌≡◌, refl, sym, ap, ◌∙◌}
use mathlib.Core.List.{List, [], ◌∷◌, ◌++◌}
use Prim.Native.Nat.{ℕ, zero, suc, ◌+◌, ◌*◌, ◌/◌, ◌%◌, ◌<◌}
use native.Mathlib.Omega.{arith}
use lib.Ieee.{Float, nan}
use lib.ListN.{length, get_or, take}
use Rattle.pcm.specs.Header.{byte_at, word16}
use Rattle.sixteen.specs.Sixteen.{sample_of, from_i16}
use Rattle.pcm.specs.Blocks.{samples_of, low_of, high_of, bytes_of}

-- ---- bytes as samples
pub length_samples : (bytes : List ℕ) → length (samples_of bytes) ≡ length bytes / 2
length_samples [] = refl
length_samples (low ∷ []) = refl
length_samples (low ∷ high ∷ bytes) = omega (arith, length_samples bytes)

-- a first part without an odd byte
pub samples_append : (a b : List ℕ) → length a % 2 ≡ 0 → samples_of (a ++ b) ≡ samples_of a ++ samples_of b
samples_append [] b e = refl
samples_append (low ∷ []) b e = absurd (omega arith)
samples_append (low ∷ high ∷ a) b e = rw (samples_append a b (omega arith))

-- two bytes further on
later : (low high : ℕ) (bytes : List ℕ) (i : ℕ) → word16 (low ∷ high ∷ bytes) (2 * suc i) ≡ word16 bytes (2 * i)
later low high bytes i =
    let e : 2 * suc i ≡ suc (suc (2 * i)) = omega arith in
    let f : suc (suc (2 * i)) + 1 ≡ suc (suc (2 * i + 1)) = omega arith in
    ap (λ (k : ℕ). word16 (low ∷ high ∷ bytes) k) e ∙ ap (λ (k : ℕ). byte_at bytes (2 * i) + 256 * byte_at (low ∷ high ∷ bytes) k) f

pub get_or_samples : (bytes : List ℕ) (i : ℕ) → 2 * i + 1 < length bytes → get_or (samples_of bytes) i nan ≡ from_i16 (sample_of (word16 bytes (2 * i)))
get_or_samples [] i h = absurd (omega arith)
get_or_samples (low ∷ []) i h = absurd (omega arith)
get_or_samples (low ∷ high ∷ bytes) zero h = refl
get_or_samples (low ∷ high ∷ bytes) (suc i) h = get_or_samples bytes i (omega arith) ∙ ap (λ (w : ℕ). from_i16 (sample_of w)) (sym (later low high bytes i))

-- ---- samples as bytes
pub length_bytes : (xs : List Float) → length (bytes_of xs) ≡ 2 * length xs
length_bytes [] = refl
length_bytes (x ∷ xs) = omega (arith, length_bytes xs)

pub bytes_append : (a b : List Float) → bytes_of (a ++ b) ≡ bytes_of a ++ bytes_of b
bytes_append [] b = refl
bytes_append (x ∷ a) b = ap (λ (l : List ℕ). low_of x ∷ high_of x ∷ l) (bytes_append a b)

twice : (i : ℕ) → 2 * suc i ≡ suc (suc (2 * i))
twice i = omega arith

pub take_bytes : (k : ℕ) (xs : List Float) → take (2 * k) (bytes_of xs) ≡ bytes_of (take k xs)
take_bytes zero xs = refl
take_bytes (suc k) [] = ap (λ (n : ℕ). take {A = ℕ} n []) (twice k)
take_bytes (suc k) (x ∷ xs) =
    ap (λ (n : ℕ). take n (bytes_of (x ∷ xs))) (twice k) ∙ ap (λ (l : List ℕ). low_of x ∷ high_of x ∷ l) (take_bytes k xs)

pub get_or_low : (xs : List Float) (i : ℕ) → i < length xs → get_or (bytes_of xs) (2 * i) 0 ≡ low_of (get_or xs i nan)
get_or_low [] i h = absurd (omega arith)
get_or_low (x ∷ xs) zero h = refl
get_or_low (x ∷ xs) (suc i) h = ap (λ (n : ℕ). get_or (bytes_of (x ∷ xs)) n 0) (twice i) ∙ get_or_low xs i (omega arith)

high_place : (i : ℕ) → 2 * i + 1 ≡ suc (2 * i)
high_place i = omega arith

high_at : (xs : List Float) (i : ℕ) → i < length xs → get_or (bytes_of xs) (suc (2 * i)) 0 ≡ high_of (get_or xs i nan)
high_at [] i h = absurd (omega arith)
high_at (x ∷ xs) zero h = refl
high_at (x ∷ xs) (suc i) h = ap (λ (n : ℕ). get_or (bytes_of (x ∷ xs)) (suc n) 0) (twice i) ∙ high_at xs i (omega arith)

pub get_or_high : (xs : List Float) (i : ℕ) → i < length xs → get_or (bytes_of xs) (2 * i + 1) 0 ≡ high_of (get_or xs i nan)
get_or_high xs i h = ap (λ (n : ℕ). get_or (bytes_of xs) n 0) (high_place i) ∙ high_at xs i h

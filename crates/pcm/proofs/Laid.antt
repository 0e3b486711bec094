-- What `decode` and `encode` leave in `out`, from what their loops have pasted over its start. Assumes nothing.
use mathlib.Core.Path.{◌≡◌, sym, ap, ◌∙◌}
use mathlib.Core.List.{List, ◌++◌}
use Prim.Native.Nat.{ℕ, ◌+◌, ◌*◌, ◌/◌, ◌≤◌, ◌<◌, min}
use native.Mathlib.Nat.{zero-add}
use native.Mathlib.Omega.{arith}
use lib.Ieee.{Float, nan}
use lib.ListN.{length, get_or, take, drop, set}
use lib.Seq.{paste, length-take-le}
use Rattle.history.proofs.Pasted.{Pasted, goes_on}
use Rattle.pcm.specs.Blocks.{samples_of, low_of, high_of, bytes_of, laid_over, Decodes, Encodes}
use Rattle.pcm.proofs.Blocks.{length_samples, length_bytes, take_bytes, get_or_low, get_or_high}

laid : {A : Type 0} (s out : List A) (n : ℕ) → n ≤ length s → paste out 0 s n ≡ laid_over (take n s) out
laid s out n h = ap (λ (k : ℕ). take n s ++ drop k out) (zero-add n ∙ sym (length-take-le n s h))

-- one entry more
pub one_more : {A : Type 0} (s out₀ out : List A) (count i : ℕ) (z v : A) → Pasted out₀ 0 s count out i
    → i < count → count ≤ length s → count ≤ length out₀ → v ≡ get_or s i z → Pasted out₀ 0 s count (set out i v) (i + 1)
one_more s out₀ out count i z v p h l f e = rw (zero-add i) at (goes_on out₀ 0 s count p z e h (omega arith) l)

pub decodes : (bytes : List ℕ) (out out' : List Float) (n : ℕ) → n ≡ min (length bytes / 2) (length out)
    → length out' ≡ length out → out' ≡ paste out 0 (samples_of bytes) n → Decodes bytes out out' n
decodes bytes out out' n e l p =
    let h : n ≤ length out' = omega arith in
    record {
      count = e;
      laid = p ∙ laid (samples_of bytes) out n (omega (arith, length_samples bytes));
      within = h;
      whole = sym (length-take-le n out' h);
    }

half_of_twice : (k : ℕ) → 2 * k / 2 ≡ k
half_of_twice k = omega arith

pub encodes : (xs : List Float) (out out' : List ℕ) (k : ℕ) → k ≡ min (length xs) (length out / 2)
    → length out' ≡ length out → out' ≡ paste out 0 (bytes_of xs) (2 * k) → Encodes xs out out' (2 * k)
encodes xs out out' k e l p =
    let h : 2 * k ≤ length out' = omega arith in
    record {
      count = ap (λ (j : ℕ). 2 * j) e;
      laid =
          p
          ∙ laid (bytes_of xs) out (2 * k) (omega (arith, length_bytes xs))
          ∙ ap (λ (made : List ℕ). laid_over made out) (take_bytes k xs ∙ ap (λ (j : ℕ). bytes_of (take j xs)) (sym (half_of_twice k)));
      within = h;
      whole = sym (length-take-le (2 * k) out' h);
    }

-- one sample more: its two bytes
pub two_more : (xs : List Float) (out₀ out : List ℕ) (k i a b : ℕ) → Pasted out₀ 0 (bytes_of xs) (2 * k) out (2 * i)
    → i < k → k ≤ length xs → 2 * k ≤ length out₀ → a ≡ low_of (get_or xs i nan) → b ≡ high_of (get_or xs i nan)
    → Pasted out₀ 0 (bytes_of xs) (2 * k) (set (set out (2 * i) a) (2 * i + 1) b) (2 * (i + 1))
two_more xs out₀ out k i a b p h l f e e' =
    let long : 2 * k ≤ length (bytes_of xs) = omega (arith, length_bytes xs) in
    let there : 2 * i + 1 + 1 ≡ 2 * (i + 1) = omega arith in
    let low = one_more (bytes_of xs) out₀ out (2 * k) (2 * i) 0 a p (omega arith) long f (e ∙ sym (get_or_low xs i (omega arith))) in
    rw there at (one_more (bytes_of xs) out₀ (set out (2 * i) a) (2 * k) (2 * i + 1) 0 b low (omega arith) long f (e' ∙ sym (get_or_high xs i (omega arith))))

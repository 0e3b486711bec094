-- What a header may say: a refusal of its own, or two rates in limits. Assumes nothing.
use mathlib.Core.Path.{◌≡◌, refl, subst}
use mathlib.Core.Bool.{Bool, true, false, cond, not, ◌||◌}
use mathlib.Core.Logic.{inl, inr}
use mathlib.Core.List.{List}
use Prim.Native.Nat.{ℕ, ◌≤◌}
use Rattle.std.specs.Prelude.{Result, Ok, Err}
use native.Mathlib.Omega.{arith}
use lib.Dec.{ltb}
use lib.ListN.{length}
use Rattle.sizes.specs.Sizes.{InLimits, in_limits}
use Rattle.sizes.proofs.Tests.{test_passed}
use Rattle.judge.specs.Refusals.{refusal_number}
use Rattle.judge.specs.declared.Refusal.{Refusal}
use Rattle.judge.specs.declared.Refusal.TheVariants.{Rate, History, Coefficients, EmptyInput, TooLong, NoRate, State, Mark, Version}
use Rattle.pcm.specs.Header.{header_length, word16, word32, has_mark, known_version, header_of}
use Rattle.pcm.specs.declared.Rates.{Rates}
use Rattle.conformed.specs.Program.{OfAHeader}

-- what is to be shown of each case
abbrev Says : Result Rates Refusal → Type 0
Says (Err refusal) = OfAHeader refusal
Says (Ok rates) = InLimits rates.source × InLimits rates.target

judged : (a b c d : Bool) (rates : Rates) → (c ≡ true → InLimits rates.source) → (d ≡ true → InLimits rates.target)
    → Says (cond a (Err Mark) (cond b (Err Version) (cond (not c || not d) (Err Rate) (Ok rates))))
judged true b c d rates p q = inl refl
judged false true c d rates p q = inr (inl refl)
judged false false false d rates p q = inr (inr refl)
judged false false true false rates p q = inr (inr refl)
judged false false true true rates p q = (p refl, q refl)

header_says : (bytes : List ℕ) → Says (header_of bytes)
unfolding header_of
header_says bytes =
    judged (ltb (length bytes) header_length || not (has_mark bytes)) (not (known_version (word16 bytes 3))) (in_limits (word32 bytes 5)) (in_limits (word32 bytes 9))
    (record { source = word32 bytes 5; target = word32 bytes 9 }) (test_passed (word32 bytes 5)) (test_passed (word32 bytes 9))

pub rates_in_limits : (bytes : List ℕ) (rates : Rates) → header_of bytes ≡ Ok rates → InLimits rates.source × InLimits rates.target
rates_in_limits bytes rates e = subst Says e (header_says bytes)

pub refused_header : (bytes : List ℕ) (refusal : Refusal) → header_of bytes ≡ Err refusal → OfAHeader refusal
refused_header bytes refusal e = subst Says e (header_says bytes)

-- every number has one digit
pub one_digit : (refusal : Refusal) → refusal_number refusal ≤ 9
one_digit Rate = omega arith
one_digit History = omega arith
one_digit Coefficients = omega arith
one_digit EmptyInput = omega arith
one_digit TooLong = omega arith
one_digit NoRate = omega arith
one_digit State = omega arith
one_digit Mark = omega arith
one_digit Version = omega arith

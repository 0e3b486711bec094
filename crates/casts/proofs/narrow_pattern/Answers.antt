-- `casts::narrow_pattern` meets its contract: each way returns the pattern of one case of proofs/casts/Cases.antt. Assumes nothing.
use Rattle.std.proofs.Common.{◌≡◌, ℕ, ◌+◌, ◌-◌, ◌*◌, ◌/◌, ◌%◌, ◌^◌, ◌<◌, ◌≤◌, ◌⊎◌, sym, ap, ◌∙◌, subst, inl, inr, mod-lt, eq-or-lt_of_le, one-mul, arith, lit<, pow_pos, shl_exact}
use lib.Ieee.{binary32, binary64, of_bits, to_bits}
use lib.Ieee.Nearest.{closest}
use Rattle.casts.specs.Narrowed.{narrowed}
use Rattle.casts.proofs.Cases.{Reads, whole_pattern, reads_zero, reads_low, reads_mid, reads_high, reads_inf}
use Rattle.casts.proofs.narrow_pattern.Goals as goal

digits_lt : (b : ℕ) → b % 2 ^ 52 < 2 ^ 52
digits_lt b = mod-lt b (pow_pos 52)

-- the shifted 1 loses nothing
unit-is : (k : ℕ) → k ≤ 62 → 1 * 2 ^ k % 2 ^ 64 ≡ 2 ^ k
unit-is k h = shl_exact {a = 1} 1 k 64 (lit< tt) (omega arith) ∙ one-mul (2 ^ k)

pub returns-then-exponent-lt873 : goal.returns-then-exponent-lt873
returns-then-exponent-lt873 c =
    let b = c.args.rest in
    whole_pattern b 0 c.requires (reads_zero (b / 2 ^ 52) (b % 2 ^ 52) c.if-exponent-lt873.true (digits_lt b))

-- the largest field is an infinity's, whose digits are 0
high : (b : ℕ) → b ≤ 2047 * 2 ^ 52 → 1151 ≤ b / 2 ^ 52 → Reads (b / 2 ^ 52) (b % 2 ^ 52) 0x7f80_0000
high b h g = go (eq-or-lt_of_le (omega arith))
  where
    go : (b / 2 ^ 52 ≡ 2047) ⊎ (b / 2 ^ 52 < 2047) → Reads (b / 2 ^ 52) (b % 2 ^ 52) 0x7f80_0000
    go (inl e) =
        let z : b % 2 ^ 52 ≡ 0 = omega arith in
        subst (λ (E : ℕ). Reads E (b % 2 ^ 52) 0x7f80_0000) (sym e) (subst (λ (t : ℕ). Reads 2047 t 0x7f80_0000) (sym z) reads_inf)
    go (inr l) = reads_high (b / 2 ^ 52) (b % 2 ^ 52) g l (digits_lt b)

pub returns-then-exponent-ge1151 : goal.returns-then-exponent-ge1151
returns-then-exponent-ge1151 c =
    let b = c.args.rest in
    whole_pattern b 0x7f80_0000 c.requires (high b c.requires c.if-exponent-ge1151.true)

low : (b r : ℕ) → b ≤ 2047 * 2 ^ 52 → 873 ≤ b / 2 ^ 52 → b / 2 ^ 52 < 897 → r ≡ closest (b % 2 ^ 52 + 2 ^ 52) (1 * 2 ^ (926 - b / 2 ^ 52) % 2 ^ 64) → r ≡ to_bits binary32 (narrowed (of_bits binary64 b))
low b r h g l e =
    let E = b / 2 ^ 52 in
    let is : r ≡ closest (b % 2 ^ 52 + 2 ^ 52) (2 ^ (926 - E)) = e ∙ ap (closest (b % 2 ^ 52 + 2 ^ 52)) (unit-is (926 - E) (omega arith)) in
    whole_pattern b r h (is ∙ reads_low E (b % 2 ^ 52) g l (digits_lt b))

pub returns-then-exponent-lt897 : goal.returns-then-exponent-lt897
returns-then-exponent-lt897 c =
    low c.args.rest c.nearest_quotient.result c.requires c.if-exponent-lt873.false c.if-exponent-lt897.true c.nearest_quotient.ensures

-- the digits of a normal value, rounded, with the carry
mid : (b r : ℕ) → b ≤ 2047 * 2 ^ 52 → 897 ≤ b / 2 ^ 52 → b / 2 ^ 52 < 1151 → r ≡ closest (b % 2 ^ 52 + 2 ^ 52) (2 ^ 29) → (b / 2 ^ 52 - 897) * 2 ^ 23 + r ≡ to_bits binary32 (narrowed (of_bits binary64 b))
mid b r h g l e =
    let E = b / 2 ^ 52 in
    whole_pattern b ((E - 897) * 2 ^ 23 + r) h (ap (λ (x : ℕ). (E - 897) * 2 ^ 23 + x) e ∙ reads_mid E (b % 2 ^ 52) g l (digits_lt b))

pub returns : goal.returns
returns c =
    mid c.args.rest c.nearest_quotient-2.result c.requires c.if-exponent-lt897.false c.if-exponent-ge1151.false c.nearest_quotient-2.ensures

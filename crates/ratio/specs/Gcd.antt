-- The greatest common divisor: how Euclid finds it, and what it is. `proofs/Laws.antt` proves that he finds it.
-- Assumes nothing.
use Rattle.std.specs.Prelude.{ℕ, zero, suc, ◌%◌}
use Rattle.std.specs.Int.{◌∣◌}

-- Euclid's steps: (a, b) becomes (b % a, a) until a is 0, and then b is the answer. At most `fuel` steps are taken
unfoldable pub euclid : ℕ → ℕ → ℕ → ℕ
euclid zero a b = b
euclid (suc fuel) zero b = b
euclid (suc fuel) (suc a) b = euclid fuel (b % suc a) (suc a)

-- the greatest common divisor of a and b. A remainder is below its divisor, so a steps are enough
unfoldable pub gcd_of : ℕ → ℕ → ℕ
unfolding euclid
gcd_of a b = euclid a a b

-- what it is: g divides both, and whatever divides both divides g
pub record IsGcd (g a b : ℕ) : Type 0 where
  pub divides_left : g ∣ a
  pub divides_right : g ∣ b
  pub greatest : (d : ℕ) → d ∣ a → d ∣ b → d ∣ g

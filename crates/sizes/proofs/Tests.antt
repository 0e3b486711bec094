-- The test `in_limits` and what it means; two tests at once. Assumes nothing.
use mathlib.Core.Path.{◌≡◌, refl, sym}
use mathlib.Core.Bool.{Bool, true, false, ◌&&◌, true≢false}
use Prim.Native.Nat.{ℕ}
use lib.Dec.{leb}
use borrow.Author.Tests.{leb-true, le-leb}
use Rattle.sizes.specs.Sizes.{InLimits, in_limits}

-- two tests that both hold
pub both : (a b : Bool) → a && b ≡ true → (a ≡ true) × (b ≡ true)
both true b e = (refl, e)
both false b e = absurd (true≢false (sym e))

pub test_passed : (rate : ℕ) → in_limits rate ≡ true → InLimits rate
unfolding in_limits
test_passed rate e =
    let p = both (leb 4000 rate) (leb rate 192000) e in
    record { low = leb-true 4000 rate p.0; high = leb-true rate 192000 p.1 }

pub test_passes : (rate : ℕ) → InLimits rate → in_limits rate ≡ true
unfolding in_limits
test_passes rate h = rw (le-leb 4000 rate h.low, le-leb rate 192000 h.high)

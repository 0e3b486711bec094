-- `sizes::in_limits` meets its contract: the first test decides which way is taken, and the second is the answer. Assumes nothing.
use native.Mathlib.Omega.{arith}
use borrow.Author.Tests.{le-leb, lt-leb}
use Rattle.sizes.specs.Sizes.{in_limits}
use Rattle.sizes.proofs.in_limits.Goals as goal

pub returns-then-rate-ge4000 : goal.returns-then-rate-ge4000
unfolding in_limits
returns-then-rate-ge4000 c = rw (le-leb 4000 c.args.rate (omega arith))

pub returns-else-rate-ge4000 : goal.returns-else-rate-ge4000
unfolding in_limits
returns-else-rate-ge4000 c = rw (lt-leb 4000 c.args.rate (omega arith))

-- The measure is how often y can still be doubled. Assumes nothing.
use Rattle.sine.proofs.+remainder.Given as goal

abbrev pub decreases-remainder : goal.decreases-remainder
decreases-remainder l = l.k

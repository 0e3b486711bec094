-- `filter::tables::interpolated_x` meets its contract: its steps are the definition's, but for i - 4, which the definition takes as a whole number (`proofs/Shifted.antt`).
-- Assumes nothing.
use lib.Ieee.{of_bits, of_int}
use Rattle.filter.specs.Tables.{interpolated_x}
use Rattle.filter.proofs.Shifted.{minus_four}
use Rattle.filter.proofs.tables.interpolated_x.Goals as goal

pub returns : goal.returns
unfolding interpolated_x of_bits of_int
returns c = rw (c.small.ensures, c.small-2.ensures, c.small-3.ensures, ← minus_four c.args.i c.requires.2)

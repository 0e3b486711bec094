-- `filter::tables::direct_x` meets its contract: its steps are the definition's. Assumes nothing.
use lib.Ieee.{of_bits, of_int}
use Rattle.filter.specs.Tables.{direct_x}
use Rattle.filter.proofs.tables.direct_x.Goals as goal

pub returns : goal.returns
unfolding direct_x of_bits of_int
returns c = rw (c.small.ensures, c.small-2.ensures, c.small-3.ensures, c.small-4.ensures)

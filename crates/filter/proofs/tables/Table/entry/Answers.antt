-- `filter::tables::Table::entry` meets its contract: it is the coefficient at its coordinate, and so is what its mirror image has (`proofs/Mirrors.antt`). Assumes nothing.
use Rattle.filter.specs.Settings.{entry_of}
use Rattle.filter.proofs.Mirrors.{mirror_fits}
use Rattle.filter.proofs.tables.Table.entry.Goals as goal

pub sinc_by_mirror-requires : goal.sinc_by_mirror-requires
sinc_by_mirror-requires c =
    mirror_fits _ _ _ _ _ _ c.args.self.fits c.requires c.coordinate-x.ensures c.if-m-k.true c.coordinate-y.ensures

pub returns-in-Some : goal.returns-in-Some
unfolding entry_of
returns-in-Some c = rw (c.sinc_by_mirror.ensures, c.coordinate-x.ensures)

pub returns-in_default : goal.returns-in_default
unfolding entry_of
returns-in_default c = rw (c.sinc.ensures, c.coordinate-x.ensures)

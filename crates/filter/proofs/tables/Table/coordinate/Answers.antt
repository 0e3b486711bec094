-- `filter::tables::Table::coordinate` meets its contract: each kernel has its own line of the definition, and f32 holds the numbers of each. Assumes nothing.
use native.Mathlib.Nat.{div-le_self, mod-le}
use native.Mathlib.Omega.{arith}
use lib.Ieee.{of_bits}
use Rattle.filter.specs.Settings.{coordinate_of}
use Rattle.filter.proofs.Settings.{direct_exact, interpolated_exact}
use Rattle.filter.proofs.tables.Table.coordinate.Goals as goal

pub direct_x-requires : goal.direct_x-requires
direct_x-requires c =
    let a = c.args in
    let e = c.args.self.fits.exact in
    let f = direct_exact a.self.setting _ c.args.self.fits c.in-Direct.is in
    (f.0, f.1, omega (arith, div-le_self a.k a.self.setting.filt_len), omega (arith, mod-le a.k a.self.setting.filt_len))

pub interpolated_x-requires : goal.interpolated_x-requires
interpolated_x-requires c =
    let e = c.args.self.fits.exact in
    let f = interpolated_exact c.args.self.setting _ c.args.self.fits c.in-Interpolated.is in
    (f.0, f.1, omega arith)

pub returns-in-Unset : goal.returns-in-Unset
unfolding coordinate_of of_bits
returns-in-Unset c = rw c.in-Unset.is

pub returns-in-Direct : goal.returns-in-Direct
unfolding coordinate_of
returns-in-Direct c = rw (c.in-Direct.is, c.direct_x.ensures)

pub returns-in-Interpolated : goal.returns-in-Interpolated
unfolding coordinate_of
returns-in-Interpolated c = rw (c.in-Interpolated.is, c.interpolated_x.ensures)

-- `filter::tables::Table::mirror_of` meets its contract: a row is no longer than its table. Assumes nothing.
use Prim.Native.Nat.{ℕ, ◌<◌}
use native.Mathlib.Omega.{arith}
use Rattle.std.specs.Option.{SomeIff, IfSome}
use Rattle.std.specs.declared.option.Option.{Option}
use Rattle.std.specs.declared.option.Option.TheVariants.{None, Some}
use Rattle.filter.proofs.Settings.{row_to}
use Rattle.filter.proofs.tables.Table.mirror_of.Goals as goal

within : (P : Type 0) {v : ℕ} (o : Option ℕ) (count : ℕ) → SomeIff o P v → v < count → IfSome o (λ m. m < count)
within P None count h l = tt
within P (Some x) count h l = rw h.1 l

pub returns-in-Direct : goal.returns-in-Direct
returns-in-Direct c =
    within _ _ _ c.checked_sub.ensures (omega (arith, row_to c.args.self.setting _ c.args.self.fits c.in-Direct.is))

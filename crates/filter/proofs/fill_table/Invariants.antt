-- `filter::fill_table` meets its contract. The loop's invariant: k entries of the table are pasted. Assumes nothing.
use Rattle.filter.specs.Settings.{table_of}
use Rattle.history.proofs.Pasted.{Pasted}
use Rattle.filter.proofs.fill_table.Given as goal

abbrev pub invariant-loop-k : goal.invariant-loop-k
invariant-loop-k l = Pasted l.initial.coefs 0 (table_of l.setting) l.setting.coefs l.coefs l.k

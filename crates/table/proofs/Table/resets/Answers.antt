-- `table::Table::resets` meets its contract. Assumes nothing.
use mathlib.Core.Path.{sym}
use Rattle.table.specs.Theorems.Access.{resets-at}
use Rattle.table.proofs.Table.resets.Goals as goal

pub returns : goal.returns
returns c = let a = c.args in sym (resets-at a.self.now.bytes a.self.now.is_table a.e c.requires)

-- `table::Table::price` meets its contract. Assumes nothing.
use mathlib.Core.Path.{sym, ◌∙◌}
use Rattle.table.specs.Theorems.Access.{price-at}
use Rattle.table.proofs.Table.price.Goals as goal

pub returns : goal.returns
returns c = let a = c.args in c.amount.ensures ∙ sym (price-at a.self.now.bytes a.self.now.is_table a.e c.requires)

-- `table::Table::rate` meets its contract. Assumes nothing.
use mathlib.Core.Path.{sym, ◌∙◌}
use Rattle.table.specs.Theorems.Access.{rate-at}
use Rattle.table.proofs.Table.rate.Goals as goal

pub returns : goal.returns
returns c = let a = c.args in c.amount.ensures ∙ sym (rate-at a.self.now.bytes a.self.now.is_table a.mode c.requires)

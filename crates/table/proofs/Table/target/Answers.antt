-- `table::Table::target` meets its contract. Assumes nothing.
use mathlib.Core.Path.{sym, ◌∙◌}
use Rattle.table.specs.Theorems.Access.{target_at}
use Rattle.table.proofs.Table.target.Goals as goal

pub returns : goal.returns
returns c = let a = c.args in c.from.ensures ∙ sym (target_at a.self.now.bytes a.self.now.is_table a.e c.requires)

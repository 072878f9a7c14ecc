-- `table::Table::source` meets its contract. Assumes nothing.
use mathlib.Core.Path.{sym, ◌∙◌}
use Rattle.table.specs.Theorems.Access.{source-at}
use Rattle.table.proofs.Table.source.Goals as goal

pub returns : goal.returns
returns c = let a = c.args in c.from.ensures ∙ sym (source-at a.self.now.bytes a.self.now.is_table a.e c.requires)

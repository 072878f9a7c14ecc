-- `table::Table::goal` meets its contract. Assumes nothing.
use mathlib.Core.Path.{◌∙◌}
use Rattle.table.specs.Theorems.Access.{goal-is}
use Rattle.table.proofs.Table.goal.Goals as goal

pub returns : goal.returns
returns c = c.from.ensures ∙ goal-is c.args.self.now.bytes c.args.self.now.is_table

-- `table::Table::modes` meets its contract. Assumes nothing.
use mathlib.Core.Path.{◌∙◌}
use Rattle.table.specs.Theorems.Access.{mode-count}
use Rattle.table.proofs.Table.modes.Goals as goal

pub returns : goal.returns
returns c = c.from.ensures ∙ mode-count c.args.self.now.bytes c.args.self.now.is_table

-- `table::Table::timers` meets its contract. Assumes nothing.
use mathlib.Core.Path.{◌∙◌}
use Rattle.table.specs.Theorems.Access.{timer-count}
use Rattle.table.proofs.Table.timers.Goals as goal

pub returns : goal.returns
returns c = c.from.ensures ∙ timer-count c.args.self.now.bytes c.args.self.now.is_table

-- `table::Table::moves` meets its contract. Assumes nothing.
use mathlib.Core.Path.{◌∙◌}
use Rattle.table.specs.Theorems.Access.{move-count}
use Rattle.table.proofs.Table.moves.Goals as goal

pub returns : goal.returns
returns c = c.from.ensures ∙ move-count c.args.self.now.bytes c.args.self.now.is_table

-- `table::Table::ceilings` meets its contract. Assumes nothing.
use Rattle.table.specs.Theorems.Access.{ceilings-held}
use Rattle.table.proofs.Table.ceilings.Goals as goal

pub returns : goal.returns
returns c = ceilings-held c.args.self.now.bytes c.args.self.now.is_table

-- `states::states_of` meets its contract.
-- Assumes nothing.
use mathlib.Core.Path.{refl}
use Rattle.regions.specs.Laws.Nodes.{table-few}
use Rattle.states.proofs.Held.{states-are}
use Rattle.states.proofs.states_of.Goals as goal

pub cells-cells-requires : goal.cells-cells-requires
cells-cells-requires c = rw c.ceilings-ceilings.ensures (table-few c.args.table.now.bytes c.args.table.now.is_table)

pub returns : goal.returns
returns c =
    states-are c.args.table.now.bytes c.args.table.now.is_table _ c.modes.result c.cells-cells.result c.modes.ensures c.cells-cells.ensures.0
    c.ceilings-ceilings.ensures c.timers.ensures refl refl

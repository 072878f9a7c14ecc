-- `space::space_of` meets its contract.
-- Assumes nothing.
use mathlib.Core.List.{List}
use mathlib.Core.Path.{refl}
use Prim.Native.Nat.{ℕ, ◌*◌, ◌≤◌}
use native.Mathlib.Omega.{arith}
use Rattle.regions.specs.Nodes.{most_cells}
use Rattle.regions.specs.Laws.Nodes.{table-few}
use Rattle.space.specs.declared.Space.{Space}
use Rattle.space.proofs.Spaces.{block-few, nodes-few, space-is}
use Rattle.space.proofs.space_of.Goals as goal

pub cell_count-requires : goal.cell_count-requires
cell_count-requires c = rw c.ceilings-ceilings.ensures (table-few c.args.table.now.bytes c.args.table.now.is_table)

-- The struct, with 0 for what is not known yet.
abbrev partly : ℕ → List ℕ → Space
partly n l = record { nodes = 0; block = 0; timers = n; ceilings = l }

-- The product for a mode fits, and that for all modes.
block-fits : (c : goal.After-corners) → c.cell_count.result * c.corners.result ≤ most_cells * 75
block-fits c =
    block-few c.args.table.now.bytes c.args.table.now.is_table (partly c.timers-timers.result c.ceilings-ceilings.result) c.cell_count.result c.corners.result _ c.timers-timers.ensures
    c.ceilings-ceilings.ensures c.cell_count.ensures.0 c.corners.ensures refl c.cell_count.ensures.2

nodes-fit : (c : goal.After-modes) → c.modes.result * (c.cell_count.result * c.corners.result) ≤ 16 * (most_cells * 75)
nodes-fit c =
    nodes-few c.args.table.now.bytes c.args.table.now.is_table (partly c.timers-timers.result c.ceilings-ceilings.result) c.cell_count.result c.corners.result c.modes.result
    c.timers-timers.ensures c.ceilings-ceilings.ensures c.cell_count.ensures.0 c.corners.ensures
    c.modes.ensures c.cell_count.ensures.2

pub overflow_mul-block : goal.overflow_mul-block
overflow_mul-block c = omega (arith, block-fits c)

pub overflow_mul-count : goal.overflow_mul-count
overflow_mul-count c = omega (arith, nodes-fit c)

pub overflow_cast-result : goal.overflow_cast-result
overflow_cast-result c = omega (arith, nodes-fit c)

pub overflow_cast-result-2 : goal.overflow_cast-result-2
overflow_cast-result-2 c = omega (arith, block-fits c.before)

pub returns : goal.returns
returns c =
    space-is c.args.table.now.bytes c.args.table.now.is_table _ c.cell_count.result c.corners.result c.modes.result
    c.timers-timers.ensures c.ceilings-ceilings.ensures c.cell_count.ensures.0 c.corners.ensures
    c.modes.ensures refl refl

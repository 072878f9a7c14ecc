-- `states::state_at` meets its contract.
-- Assumes nothing.
use Prim.Native.Nat.{◌≤◌}
use native.Mathlib.Omega.{arith}
use Rattle.corners.specs.Cells.{most_cells}
use Rattle.states.specs.declared.States.{States}
use Rattle.states.specs.States.{StatesReady}
use Rattle.states.specs.Laws.Bounds.{cells-between}
use Rattle.states.proofs.Held.{ceilings-few, state-stands}
use Rattle.states.proofs.state_at.Goals as goal

-- The cells of a mode are there, and few.
between : (s : States) → StatesReady s → (1 ≤ s.cells) × (s.cells ≤ most_cells)
between s r = cells-between r.table r.is-table s r.is-states

pub overflow_cast-cells : goal.overflow_cast-cells
overflow_cast-cells c = omega (arith, between c.args.states c.requires.0)

pub nonzero_div-result : goal.nonzero_div-result
nonzero_div-result c = omega (arith, between c.args.states c.requires.0)

pub nonzero_rem-node : goal.nonzero_rem-node
nonzero_rem-node c = omega (arith, between c.args.states c.requires.0)

pub cell_at-requires : goal.cell_at-requires
cell_at-requires c =
    let r = c.requires.0 in
    ceilings-few r.table r.is-table c.args.states r.is-states

pub returns : goal.returns
returns c =
    λ t h is. state-stands t h c.args.states is c.args.node c.cell_at.result c.cell_at.ensures

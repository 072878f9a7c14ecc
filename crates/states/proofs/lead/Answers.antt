-- `states::lead` meets its contract.
-- Assumes nothing.
use mathlib.Core.Path.{◌≡◌, ap, ◌∙◌}
use Prim.Native.Nat.{ℕ, ◌*◌, ◌≤◌}
use native.Mathlib.Omega.{arith}
use Rattle.semantics.specs.Nodes.Node.{cell_number}
use Rattle.table.specs.Held.{fields_of, move_fields_at}
use Rattle.corners.specs.Cells.{most_cells}
use Rattle.states.specs.States.{zeroed_in}
use Rattle.states.specs.Laws.Bounds.{cells-between}
use Rattle.states.proofs.Held.{target-few, ceilings-few, lead-fits, lead_is}
use Rattle.states.proofs.lead.Goals as goal

-- The cells of a mode are few, and their product with the target fits.
few : (c : goal.After-struct_known-1) → c.args.states.cells ≤ most_cells
few c =
    (cells-between c.args.table.now.bytes c.requires.is-table c.args.states c.requires.is-states).1

fits : (c : goal.After-struct_known-1) → c.target-target.result * c.args.states.cells ≤ 65536
fits c =
    lead-fits c.args.table.now.bytes c.requires.is-table c.args.states c.requires.is-states c.args.e c.target-target.result c.requires.there
    c.target-target.ensures

pub overflow_cast-target : goal.overflow_cast-target
overflow_cast-target c =
    omega (arith, target-few c.args.table.now.bytes c.requires.is-table c.args.e c.target-target.result c.requires.there c.target-target.ensures)

pub cell_number-cell-requires : goal.cell_number-cell-requires
cell_number-cell-requires c =
    ceilings-few c.args.table.now.bytes c.requires.is-table c.args.states c.requires.is-states

pub overflow_cast-result : goal.overflow_cast-result
overflow_cast-result c = omega (arith, few c)

pub overflow_mul-result : goal.overflow_mul-result
overflow_mul-result c = omega (arith, fits c)

pub overflow_add-result : goal.overflow_add-result
overflow_add-result c = omega (arith, fits c, c.cell_number-cell.ensures.1)

pub overflow_cast-result-2 : goal.overflow_cast-result-2
overflow_cast-result-2 c = omega (arith, fits c, c.cell_number-cell.ensures.1)

pub returns : goal.returns
returns c =
    let values : c.zeroed.result ≡ zeroed_in (move_fields_at (fields_of c.args.table.now.bytes) c.args.e).resets c.args.values =
    c.zeroed.ensures ∙ ap (λ (byte : ℕ). zeroed_in byte c.args.values) c.resets.ensures in
    lead_is c.args.table.now.bytes c.requires.is-table c.args.states c.requires.is-states c.args.e c.target-target.result c.cell_number-cell.result
    c.args.values c.target-target.ensures (c.cell_number-cell.ensures.0 ∙ ap (cell_number c.args.states.ceilings) values)

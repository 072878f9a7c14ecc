-- `closed::is_closed` meets its contract.
-- Assumes nothing.
use mathlib.Core.Path.{◌∙◌}
use Rattle.closed.proofs.Closing.{modes-not, then-moves}
use Rattle.closed.proofs.is_closed.Goals as goal

pub returns-then-rows_closed : goal.returns-then-rows_closed
returns-then-rows_closed c =
    let t = c.args.table.now in
    then-moves t.bytes t.is_table _ c.modes.ensures _ c.rows_closed.ensures c.if-rows_closed.true _ c.moves.ensures _ c.rows_closed-then-rows_closed.ensures

pub returns-else-rows_closed : goal.returns-else-rows_closed
returns-else-rows_closed c =
    let t = c.args.table.now in
    c.if-rows_closed.false ∙ modes-not t.bytes t.is_table _ c.modes.ensures _ c.rows_closed.ensures c.if-rows_closed.false

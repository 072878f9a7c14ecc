-- `rules::rows::join_row` meets its contract. The loop's invariant: the windows of the timers before the present one are joined. Assumes nothing.
use native.Mathlib.Omega.{arith}
use Rattle.rules.proofs.Joining.{row_more}
use Rattle.rules.proofs.rows.join_row.Goals as goal

pub loop-timer-preserved : goal.loop-timer-preserved
loop-timer-preserved c =
    let a = c.args in (
      omega arith,
      row_more a.resets a.row a.target _ (omega arith) (omega arith) c.loop-timer.timer (omega arith) c.loop-timer.rules c.loop-timer.invariant.1 _ _
          c.window-at.result c.window-from.result c.window-at.ensures c.window-from.ensures c.joined_low-low.ensures
          c.joined_high-high.ensures,
    )

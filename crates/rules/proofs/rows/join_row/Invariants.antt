-- `rules::rows::join_row` meets its contract. The loop's invariant: the windows of the timers before the present one are joined. Assumes nothing.
use Prim.Native.Nat.{◌-◌, ◌≤◌}
use Rattle.rules.specs.Making.{JoinedRow}
use Rattle.rules.proofs.rows.join_row.Given as goal

abbrev pub invariant-loop-timer : goal.invariant-loop-timer
invariant-loop-timer l = (l.timer ≤ 3) × JoinedRow l.resets l.row l.target l.timer l.initial.rules l.rules

abbrev pub decreases-loop-timer : goal.decreases-loop-timer
decreases-loop-timer l = 3 - l.timer

-- `rules::rows::cap_row` meets its contract. The loop's invariant: the windows of the timers before the present one end above their ceilings.
-- Assumes nothing.
use Prim.Native.Nat.{◌-◌, ◌≤◌}
use Rattle.rules.specs.Making.{CappedRow}
use Rattle.rules.proofs.rows.cap_row.Given as goal

abbrev pub invariant-loop-timer : goal.invariant-loop-timer
invariant-loop-timer l = (l.timer ≤ 3) × CappedRow l.ceilings l.row l.timer l.initial.rules l.rules

abbrev pub decreases-loop-timer : goal.decreases-loop-timer
decreases-loop-timer l = 3 - l.timer

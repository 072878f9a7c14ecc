-- `rules::rows::cap` meets its contract. The loop's invariant: the windows of the rows before the present one end above the ceilings.
-- Assumes nothing.
use Prim.Native.Nat.{◌-◌, ◌≤◌}
use Rattle.table.specs.Held.{automaton_of}
use Rattle.rules.specs.Making.{CappedRows}
use Rattle.rules.proofs.rows.cap.Given as goal

abbrev pub invariant-loop-mode : goal.invariant-loop-mode
invariant-loop-mode l = (l.mode ≤ l.modes) × CappedRows (automaton_of l.table.bytes).ceilings l.mode l.initial.rules l.rules

abbrev pub decreases-loop-mode : goal.decreases-loop-mode
decreases-loop-mode l = l.modes - l.mode

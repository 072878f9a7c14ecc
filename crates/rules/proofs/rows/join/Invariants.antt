-- `rules::rows::join` meets its contract. The loop's invariant: the rows of the moves before e are joined. Assumes nothing.
use Prim.Native.Nat.{◌-◌, ◌≤◌}
use Rattle.table.specs.Held.{automaton_of}
use Rattle.rules.specs.Making.{JoinedRows}
use Rattle.rules.proofs.rows.join.Given as goal

abbrev pub invariant-loop-e : goal.invariant-loop-e
invariant-loop-e l = (l.e ≤ l.moves) × JoinedRows (automaton_of l.table.bytes) l.e l.initial.rules l.rules

abbrev pub decreases-loop-e : goal.decreases-loop-e
decreases-loop-e l = l.moves - l.e

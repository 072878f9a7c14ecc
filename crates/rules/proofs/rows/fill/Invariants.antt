-- `rules::rows::fill` meets its contract. The loop's invariant: the rows of the first i records are filled. Assumes nothing.
use Prim.Native.Nat.{◌-◌, ◌≤◌}
use Rattle.rules.specs.Making.{condition_bytes, FilledRows}
use Rattle.rules.proofs.rows.fill.Given as goal

abbrev pub invariant-loop-i : goal.invariant-loop-i
invariant-loop-i l = (l.i ≤ l.count) × FilledRows (condition_bytes l.table l.at l.stride) l.i l.row l.initial.rules l.rules

abbrev pub decreases-loop-i : goal.decreases-loop-i
decreases-loop-i l = l.count - l.i

-- `cases::cells::found_again` meets its contract. No more corners are found again than were looked at.
-- Assumes nothing.
use Prim.Native.Nat.{◌≤◌}
use Rattle.cases.proofs.cells.found_again.Given as goal

abbrev pub invariant-loop-number : goal.invariant-loop-number
invariant-loop-number l = l.found ≤ l.number

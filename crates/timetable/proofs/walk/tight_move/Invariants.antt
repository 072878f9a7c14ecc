-- `timetable::walk::tight_move` meets its contract. The loop is at a move that is not passed over, and no edge of those before it is tight.
-- Assumes nothing.
use Rattle.rules.specs.Laws.Moves.{left}
use Rattle.timetable.proofs.Tightness.{Turn}
use Rattle.timetable.proofs.walk.tight_move.Given as goal

abbrev pub invariant-loop-next : goal.invariant-loop-next
invariant-loop-next l =
    Turn l.minutes.table.now.bytes l.minutes.rules.now l.minutes.states l.from l.first l.words l.halves l.next

abbrev pub decreases-loop-next : goal.decreases-loop-next
decreases-loop-next l = left l.next

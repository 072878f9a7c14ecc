-- `steps::by_move` meets its contract. The loop is at a move that is not passed over, and those before it lead nowhere.
-- Assumes nothing.
use Rattle.rules.specs.Laws.Moves.{left}
use Rattle.steps.proofs.PassedMoves.{Turn}
use Rattle.steps.proofs.by_move.Given as goal

abbrev pub invariant-loop-next : goal.invariant-loop-next
invariant-loop-next l =
    Turn l.corners.table.now.bytes l.corners.rules.now l.corners.space l.at l.stand l.words l.halves l.next l.images

abbrev pub decreases-loop-next : goal.decreases-loop-next
decreases-loop-next l = left l.next

-- `search::edges::relax_moves` meets its contract. The loop has relaxed the edges of the moves before the next one, which is not passed over.
-- Assumes nothing.
use Rattle.rules.specs.Laws.Moves.{left}
use Rattle.search.proofs.MoveRelaxing.{Turn}
use Rattle.search.proofs.edges.relax_moves.Given as goal

abbrev pub invariant-loop-next : goal.invariant-loop-next
invariant-loop-next l =
    Turn l.corners.table.now.bytes l.corners.rules.now l.corners.space l.from l.halves l.next l.images l.initial.words l.words

abbrev pub decreases-loop-next : goal.decreases-loop-next
decreases-loop-next l = left l.next

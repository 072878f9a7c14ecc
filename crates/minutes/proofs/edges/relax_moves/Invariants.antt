-- `minutes::edges::relax_moves` meets its contract. The loop has relaxed the pairs with the moves before the next one, which is not passed over.
-- Assumes nothing.
use Rattle.rules.specs.Laws.Moves.{left}
use Rattle.minutes.proofs.MoveRelaxing.{Turn}
use Rattle.minutes.proofs.edges.relax_moves.Given as goal

abbrev pub invariant-loop-next : goal.invariant-loop-next
invariant-loop-next l =
    Turn l.minutes.table.now.bytes l.minutes.rules.now l.minutes.states l.from l.halves l.next l.initial.words l.words

abbrev pub decreases-loop-next : goal.decreases-loop-next
decreases-loop-next l = left l.next

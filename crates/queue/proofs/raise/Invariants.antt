-- `raise` meets its contract. The loop's invariant: the node has come up to this place. Assumes nothing.
use Rattle.queue.proofs.GoingUp.{Rising}
use Rattle.queue.proofs.raise.Given as goal

abbrev pub invariant-loop-place : goal.invariant-loop-place
invariant-loop-place l = Rising l.nodes l.node l.initial.words l.words l.place

abbrev pub decreases-loop-place : goal.decreases-loop-place
decreases-loop-place l = l.place

-- `route::walk::prune` meets its contract. The marked ones of the corners passed were left.
-- Assumes nothing.
use Rattle.route.specs.Walk.{PrunedBelow}
use Rattle.route.proofs.walk.prune.Given as goal

abbrev pub invariant-loop-j : goal.invariant-loop-j
invariant-loop-j l = PrunedBelow l.j l.first l.set l.initial.words l.words

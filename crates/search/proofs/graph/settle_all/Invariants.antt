-- `graph::settle_all` meets its contract. The loop's invariant: nodes were settled up to some key. The measure is how many are not.
-- Assumes nothing.
use Rattle.search.proofs.Turning.{Turn, turns}
use Rattle.search.proofs.graph.settle_all.Given as goal

abbrev pub invariant-loop-node : goal.invariant-loop-node
invariant-loop-node g l = Turn (g.G.Graph.rooted l.graph) l.initial.words l.words

abbrev pub decreases-loop-node : goal.decreases-loop-node
decreases-loop-node g l = turns (g.G.Graph.rooted l.graph) l.words

-- The least costs from a node s to the nodes that are as near to it as the targets are: what a search forwards from s leaves in the words.
-- Assumes nothing.
use Rattle.std.specs.Prelude.{cond, ◌&&◌, List, [], ◌∷◌, ℕ, leb, eqb}
use Rattle.semantics.specs.Answer.{count_from}
use Rattle.semantics.specs.Corners.Corner.{flat_map}
use Rattle.semantics.specs.Graph.Path.{Edge, Graph, Entry, unreached, reached}
use Rattle.semantics.specs.Graph.Distance.{distance, entry_words}

-- The edge e of node v, turned round: it leads back to v.
abbrev pub turn : ℕ → Edge → Edge
turn v e = record { label = e.label; weight = e.weight; to = v }

-- Those of the edges of v that lead to w, turned round.
abbrev pub turned_to : ℕ → ℕ → List Edge → List Edge
turned_to v w [] = []
turned_to v w (e ∷ es) = cond (eqb e.to w) (turn v e ∷ turned_to v w es) (turned_to v w es)

-- The graph with all its edges turned round, and s as its only target.
unfoldable pub turned : Graph → ℕ → Graph
turned g s = record {
  nodes = g.nodes;
  edges = λ w. flat_map (λ v. turned_to v w (g.edges v)) (count_from 0 g.nodes);
  is_target = λ v. eqb v s;
}

-- An entry that is no dearer and no farther than the other, in charge and in steps, is kept; any is, if the other is unreached.
abbrev pub near : Entry → Entry → Entry
near unreached y = y
near (reached b) unreached = unreached
near (reached b) (reached c) = cond (leb c.charge b.charge && leb c.steps b.steps) (reached c) unreached

-- The words of a search from the node s: the least cost from s to each node, if it is as near as the targets are.
unfoldable pub near_words : Graph → ℕ → List ℕ
near_words g s = flat_map (λ v. entry_words (near (distance g s) (distance (turned g s) v))) (count_from 0 g.nodes)

-- The graph of a table's corners is one that can be searched.
-- Assumes nothing.
use Rattle.std.specs.Prelude.{◌≡◌, List, ℕ}
use Rattle.std.proofs.Common.{sym, ◌∙◌, arith}
use Rattle.semantics.proofs.Answers.Graph.{graph-nodes}
use Rattle.table.specs.Fields.{most_price}
use Rattle.table.specs.Held.{automaton_of}
use Rattle.space.specs.declared.Space.{Space}
use Rattle.space.specs.Space.{graph_of, Setting}
use Rattle.space.specs.Laws.Shares.{nodes-three, start-below}
use Rattle.search.specs.Searches.{Searchable}
use Rattle.search.specs.Edges.{rooted_of}
use Rattle.search.specs.Laws.Goal.{goal-closed, goal-light, goal-small}

module _ {t rs : List ℕ} {s : Space} (set : Setting t rs s) (goal : ℕ) where
  -- There are as many nodes as the struct says.
  pub size : s.nodes ≡ (graph_of t goal).nodes
  size = set.is-space.nodes-are ∙ sym (graph-nodes (automaton_of t) goal)

  pub goal-searchable : Searchable (rooted_of t goal)
  goal-searchable =
      let nodes = graph-nodes (automaton_of t) goal in
      let counted = set.is-space.nodes-are in
      record {
        two = omega (arith, nodes-three t set.is-table, nodes);
        few = omega (arith, set.few, size);
        there = omega (arith, start-below t set.is-table, nodes);
        closed = goal-closed t set.is-table goal;
        weight = most_price;
        light = goal-light t set.is-table goal;
        small = goal-small t set.is-table goal (omega (arith, set.few, counted));
      }

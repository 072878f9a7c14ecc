-- What a search answers and leaves in the words lent, and what clearing leaves in them.
-- Assumes nothing.
use Rattle.std.specs.Prelude.{cond, Result, Ok, Err, List, ◌++◌, ℕ, ◌*◌, leb, length, drop, replicate}
use Rattle.semantics.specs.Automaton.{Automaton}
use Rattle.semantics.specs.NodeCount.{node_count}
use Rattle.semantics.specs.Graph.Near.{near_words}
use Rattle.semantics.specs.Graph.CornerGraph.{start_node, corner_graph}
pub use Rattle.regions.specs.Nodes.{most_nodes}
use Rattle.table.specs.declared.refusals.Refusal.{Refusal}
use Rattle.table.specs.Refusals.{number}

-- The number of nodes whose words a search uses; or, where it uses none, the number of a refusal.
pub data Searched : Type 0 where
  Nodes : ℕ → Searched
  Refused : ℕ → Searched

-- What the code answers.
abbrev pub told : Result ℕ Refusal → Searched
told (Ok n) = Nodes n
told (Err refusal) = Refused (number refusal)

-- "8: E above 65,536". Otherwise E.
abbrev pub nodes_of : Automaton → Searched
nodes_of a = cond (leb (node_count a) most_nodes) (Nodes (node_count a)) (Refused 8)

-- "8: E above 65,536"; then "9: fewer than 2E words lent". Otherwise E.
abbrev pub answered : Automaton → ℕ → Searched
answered a lent = cond (leb (node_count a) most_nodes) (cond (leb (2 * node_count a) lent) (Nodes (node_count a)) (Refused 9)) (Refused 8)

-- A refusal changes nothing; otherwise the first words become the new ones, and the rest are untouched.
abbrev pub unless_refused : Searched → List ℕ → List ℕ → List ℕ
unless_refused (Nodes n) new ws = new ++ drop (2 * n) ws
unless_refused (Refused n) new ws = ws

-- After a search for the goal l: the least charge and number of steps from the start to every corner that is as near as the goal.
unfoldable pub searched : Automaton → ℕ → List ℕ → List ℕ
searched a l ws = unless_refused (answered a (length ws)) (near_words (corner_graph a l) (start_node a)) ws

-- After clearing: "the first 2E words are 0 and the rest are untouched".
unfoldable pub cleared : Automaton → List ℕ → List ℕ
cleared a ws = unless_refused (answered a (length ws)) (replicate (2 * node_count a) 0) ws

-- What reading the answer off the words of a search asks and does.
-- Assumes nothing.
use Rattle.std.specs.Prelude.{◌≡◌, List, ℕ, ◌≤◌, length}
use Rattle.semantics.specs.NodeCount.{node_count}
use Rattle.semantics.specs.Graph.Path.{table}
use Rattle.semantics.specs.Answer.{answer}
use Rattle.semantics.specs.Answers.Walk.{NearCosts}
use Rattle.table.specs.Held.{automaton_of, IsTable}
use Rattle.rules.specs.Rules.{IsRules}
use Rattle.search.specs.Outcome.{most_nodes, cleared}
use Rattle.space.specs.Space.{graph_of, start_of}
use Rattle.near.specs.Near.{BestRoom}
use Rattle.route.specs.Answers.{Answer}
use Rattle.route.specs.Plan.{outcome, routed}
use Rattle.route.specs.Walk.{RestKept}

-- The words are those of a search of the table for its goal.
pub record Found (t rs : List ℕ) (nodes : ℕ) (ws : List ℕ) : Type 0 where
  pub is-table : IsTable t
  pub is-rules : IsRules t rs
  pub counted : nodes ≡ node_count (automaton_of t)
  pub few : nodes ≤ most_nodes
  pub room : BestRoom nodes (length (automaton_of t).modes) ws
  pub near : NearCosts (graph_of t (automaton_of t).goal) (start_of t) (table ws)

-- The answer and the route bytes are those of the definitions, whatever words are cleared afterwards.
pub record ReadOff (t ws bs ws' bs' : List ℕ) (r : Answer) : Type 0 where
  pub is-answer :
      (vs : List ℕ)
      → outcome r (cleared (automaton_of t) vs) bs' ≡ routed (automaton_of t) (answer (automaton_of t) (automaton_of t).goal) vs bs
  pub words : RestKept t ws ws'

-- What the function that searches for a timetable and writes its pairs asks and does.
-- Assumes nothing.
use Rattle.std.specs.Prelude.{◌≡◌, List, ℕ, ◌*◌, ◌≤◌, length}
use Rattle.semantics.specs.NodeCount.{node_count}
use Rattle.semantics.specs.Timetable.{timetable}
use Rattle.table.specs.Held.{automaton_of}
use Rattle.search.specs.Outcome.{most_nodes, cleared}
use Rattle.timetable.specs.Answers.{Answer}
use Rattle.timetable.specs.Timetabled.{outcome, told}
use Rattle.route.specs.Walk.{RestKept}

-- The table has few enough nodes, whose words were lent.
pub record FindReady (t ws : List ℕ) : Type 0 where
  pub few : node_count (automaton_of t) ≤ most_nodes
  pub room : 2 * node_count (automaton_of t) ≤ length ws

-- The answer and the route bytes are those of the definitions, whatever words are cleared afterwards.
pub record ReadOff (t ws bs ws' bs' : List ℕ) (r : Answer) : Type 0 where
  pub is-answer :
      (vs : List ℕ)
      → outcome r (cleared (automaton_of t) vs) bs' ≡ told (automaton_of t) (timetable (automaton_of t) (automaton_of t).goal) vs bs
  pub words : RestKept t ws ws'

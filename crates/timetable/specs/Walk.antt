-- What the walk that writes a timetable asks and does, and its private functions.
-- Assumes nothing.
use Rattle.std.specs.Prelude.{◌≡◌, List, ◌++◌, ℕ, ◌+◌, ◌*◌, ◌-◌, ◌/◌, ◌%◌, ◌≤◌, ◌<◌, length, get_or, drop, set}
use Rattle.semantics.specs.NodeCount.{node_count}
use Rattle.semantics.specs.Order.{Cost}
use Rattle.semantics.specs.Answer.{route}
use Rattle.semantics.specs.Timetable.{timetable}
use Rattle.semantics.specs.Graph.Path.{reached, infinity, table}
use Rattle.semantics.specs.Graph.Distance.{distance}
use Rattle.semantics.specs.Answers.Walk.{NearCosts}
use Rattle.table.specs.Held.{automaton_of}
use Rattle.route.specs.Walk.{RestKept}
use Rattle.timetable.specs.declared.walk.Stand.{Stand}
use Rattle.timetable.specs.declared.walk.Next.{Next}
use Rattle.timetable.specs.Steps.{goal_graph}

-- The words are those of a search of the table for its goal, which is reached; behind them there is room for a stack of as many nodes, and there are route
-- bytes for the pairs.
pub record WalkReady (t ws bs : List ℕ) : Type 0 where
  pub words : 2 * node_count (automaton_of t) ≤ length ws
  pub near : NearCosts (goal_graph t) 0 (table ws)
  pub best : Cost
  pub is-best : distance (goal_graph t) 0 ≡ reached best
  pub room : 2 * best.steps ≤ length bs

-- The timetable of the definitions stands in the first route bytes, and the others are as they were.
pub record WalkDone (t ws bs ws' bs' : List ℕ) : Type 0 where
  pub best : Cost
  pub is-best : distance (goal_graph t) 0 ≡ reached best
  pub bytes : List ℕ
  pub is-timetable : timetable (automaton_of t) (automaton_of t).goal ≡ route best.charge bytes
  pub counted : length bytes ≡ 2 * best.steps
  pub stored : bs' ≡ bytes ++ drop (2 * best.steps) bs
  pub words : RestKept t ws ws'

pub record AdvanceReady (count : ℕ) (z : Stand) (r : Next) (ws bs : List ℕ) : Type 0 where
  pub stack : 2 * count + z.depth < length ws
  pub room : 2 * z.depth + 1 < length bs
  pub few : z.node < 65536
  pub small : r.label < 1024

-- The node goes onto the stack, and the pair's bytes into the route.
pub record Advanced (count : ℕ) (z : Stand) (r : Next) (ws bs ws' bs' : List ℕ) (z' : Stand) : Type 0 where
  pub words : ws' ≡ set ws (2 * count + z.depth) z.node
  pub route : bs' ≡ set (set bs (2 * z.depth) (r.label / 64)) (2 * z.depth + 1) (r.label % 64)
  pub stand : z' ≡ record { node = r.node; depth = z.depth + 1; label = 0 }

pub record BacktrackReady (count : ℕ) (z : Stand) (ws bs : List ℕ) : Type 0 where
  pub there : 2 * z.node < length ws
  pub deep : 0 < z.depth
  pub stack : 2 * count + z.depth ≤ length ws
  pub room : 2 * z.depth ≤ length bs
  pub minutes : get_or bs (2 * (z.depth - 1)) 0 ≤ 15
  pub made : get_or bs (2 * (z.depth - 1) + 1) 0 < 64

-- The node becomes unreached; the one before it comes from the stack, and the label behind that of its pair is the next to be tried.
pub record Backtracked (count : ℕ) (z : Stand) (ws bs ws' : List ℕ) (z' : Stand) : Type 0 where
  pub words : ws' ≡ set ws (2 * z.node) infinity
  pub node-is : z'.node ≡ get_or ws' (2 * count + (z.depth - 1)) 0
  pub depth_is : z'.depth ≡ z.depth - 1
  pub label_is : z'.label ≡ 64 * get_or bs (2 * (z.depth - 1)) 0 + get_or bs (2 * (z.depth - 1) + 1) 0 + 1

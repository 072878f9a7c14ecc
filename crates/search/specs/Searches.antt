-- What a search asks of a graph, and what it finds there: the nodes are settled in the order of their costs from the start as far as the first target.
-- Assumes nothing.
use Rattle.std.specs.Prelude.{◌≡◌, ◌↔◌, Bool, true, false, Option, List, ◌++◌, ℕ, ◌*◌, ◌%◌, ◌≤◌, ◌<◌, length, drop}
use Rattle.semantics.specs.Order.{Cost}
use Rattle.semantics.specs.Graph.Path.{Edge, Closed, WeightsWithin, Target, reached, infinity, charge_at, steps_at, table}
use Rattle.semantics.specs.Graph.Distance.{distance}
use Rattle.semantics.specs.Graph.Near.{near_words}
use Rattle.semantics.specs.Answers.Walk.{NearCosts}
use Rattle.semantics.specs.Paths.Explored.{Explored}
use Rattle.semantics.specs.Paths.Near.{BestTarget, TargetWithin}
use Rattle.queue.specs.Tournament.{none}
use Rattle.queue.specs.Queue.{slot_at}
use Rattle.near.specs.declared.Cost.{Cost as CostHeld}
use Rattle.near.specs.Near.{cost_entry}
use Rattle.search.specs.Exploring.{Rooted, costs_in, Between, Relaxes}

-- The graph has two nodes or more, the start among them, and no charge comes to infinity.
pub record Searchable (r : Rooted) : Type 0 where
  pub two : 2 ≤ r.graph.nodes
  pub few : r.graph.nodes ≤ none
  pub there : r.start < r.graph.nodes
  pub closed : Closed r.graph
  pub weight : ℕ
  pub light : WeightsWithin r.graph weight
  pub small : r.graph.nodes * weight < infinity

-- The node is the first of the queue, and the cost is its own.
pub record VisitReady (r : Rooted) (node : ℕ) (c : CostHeld) (ws : List ℕ) : Type 0 where
  pub upto : ℕ
  pub between : Between r.graph r.start r.graph.nodes upto ws
  pub first : slot_at ws 1 ≡ node
  pub there : node < r.graph.nodes
  pub charge-is : c.charge ≡ charge_at ws node
  pub steps-are : c.steps ≡ steps_at ws node % 65536

abbrev pub AnyEdge : Edge → Type 0
AnyEdge e = Unit {0}

-- It is a target, and the words are the same; or its edges are relaxed.
pub record Visited (r : Rooted) (node : ℕ) (ws ws' : List ℕ) (is_target : Bool) : Type 0 where
  pub target : (is_target ≡ true) ↔ Target r.graph node
  pub same : is_target ≡ true → ws' ≡ ws
  pub relaxed : is_target ≡ false → Relaxes r r.graph.nodes node AnyEdge ws ws'

-- Nodes were settled up to some key.
pub record FindReady (r : Rooted) (ws : List ℕ) : Type 0 where
  pub upto : ℕ
  pub between : Between r.graph r.start r.graph.nodes upto ws

-- The graph was explored from its start as far as the cost, which is the least of its targets; none, if no target is reached. The words behind those of the
-- nodes are the same.
pub record FoundTarget (r : Rooted) (ws ws' : List ℕ) (c : Option CostHeld) : Type 0 where
  pub explored : Explored r.graph r.start (cost_entry c) (costs_in r.graph.nodes ws')
  pub within : (a : Cost) → cost_entry c ≡ reached a → TargetWithin r.graph (costs_in r.graph.nodes ws') a
  pub best : BestTarget r.graph (costs_in r.graph.nodes ws') (cost_entry c)
  pub rest : drop (2 * r.graph.nodes) ws' ≡ drop (2 * r.graph.nodes) ws
  pub kept : length ws' ≡ length ws

-- The cost is the least from the start to a target, none if there is no way to one, and the words have the least costs from the start to all nodes that are
-- as near. The words behind those of the nodes are the same.
pub record SearchDone (r : Rooted) (ws ws' : List ℕ) (c : Option CostHeld) : Type 0 where
  pub cost-is : cost_entry c ≡ distance r.graph r.start
  pub words : ws' ≡ near_words r.graph r.start ++ drop (2 * r.graph.nodes) ws
  -- So, for a caller:
  pub near : NearCosts r.graph r.start (table ws')
  pub rest : drop (2 * r.graph.nodes) ws' ≡ drop (2 * r.graph.nodes) ws
  pub kept : length ws' ≡ length ws

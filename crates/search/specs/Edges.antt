-- What the functions that relax the edges of a node ask and do.
-- Assumes nothing.
use Rattle.std.specs.Prelude.{◌≡◌, ◌⊎◌, List, ℕ, suc, ◌+◌, ◌≤◌, ◌<◌}
use Rattle.semantics.specs.Graph.Path.{Edge, charge_at, steps_at}
use Rattle.queue.specs.Queue.{lows}
use Rattle.space.specs.declared.Space.{Space}
use Rattle.space.specs.declared.graph.CornerGraph.{CornerGraph}
use Rattle.space.specs.Space.{graph_of, start_of, Setting, IsCorner}
use Rattle.search.specs.declared.edges.Source.{Source}
use Rattle.search.specs.Exploring.{Rooted, InHand, Relaxes}

-- Moves have the bytes below 64, delay and linger 64 and 65.
abbrev pub IsMove : Edge → Type 0
IsMove e = e.label < 64

abbrev pub IsWait : Edge → Type 0
IsWait e = 64 ≤ e.label

-- Every edge is one of these.
abbrev pub IsAny : Edge → Type 0
IsAny e = IsWait e ⊎ IsMove e

-- The graph of a table for a goal, with the node where chains begin.
abbrev pub rooted_of : List ℕ → ℕ → Rooted
rooted_of t goal = record { graph = graph_of t goal; start = start_of t }

-- The node of a struct.
abbrev pub node_in : Source → ℕ
node_in x = x.at.first + x.at.index

-- It is in hand; the struct has its charge, and the steps with which its edges arrive, one more than its own.
pub record Holding (t : List ℕ) (s : Space) (x : Source) (ws : List ℕ) (goal : ℕ) : Type 0 where
  pub hand : InHand (rooted_of t goal) s.nodes (node_in x) ws
  pub charge-is : x.charge ≡ charge_at (lows s.nodes ws) (node_in x)
  pub steps-are : x.steps ≡ suc (steps_at (lows s.nodes ws) (node_in x))

-- Its edges arrive with fewer than E steps.
abbrev pub Short : Space → Source → Type 0
Short s x = x.steps < s.nodes

pub record EdgesReady (t rs : List ℕ) (s : Space) (x : Source) (ws : List ℕ) : Type 0 where
  pub setting : Setting t rs s
  pub corner : IsCorner t x.at
  pub goal : ℕ
  pub holding : Holding t s x ws goal

-- For every goal for which it was, its edges that fit are relaxed.
abbrev pub EdgesDone : (Edge → Type 0) → List ℕ → Space → Source → List ℕ → List ℕ → Type 0
EdgesDone Fits t s x ws ws' = (goal : ℕ) → Holding t s x ws goal → Relaxes (rooted_of t goal) s.nodes (node_in x) Fits ws ws'

-- The same by the struct that has the table, its rules and its space.
abbrev pub EdgesReadyIn : CornerGraph → Source → List ℕ → Type 0
EdgesReadyIn g = EdgesReady g.table.now.bytes g.rules.now g.space

abbrev pub EdgesDoneIn : (Edge → Type 0) → CornerGraph → Source → List ℕ → List ℕ → Type 0
EdgesDoneIn Fits g = EdgesDone Fits g.table.now.bytes g.space

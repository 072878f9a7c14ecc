-- What a search and the steps of a walk are given: the table, its rules, and how the nodes are numbered; and a node with the region of which it is a
-- corner.
-- Assumes nothing.
use Rattle.std.specs.Prelude.{◌≡◌, List, ℕ, ◌*◌, ◌≤◌}
use Rattle.semantics.specs.Automaton.{Automaton, timers}
use Rattle.semantics.specs.Region.{top}
use Rattle.semantics.specs.NodeCount.{corner_count, cell_count, node_count}
use Rattle.semantics.specs.Chain.{Place}
use Rattle.semantics.specs.Nodes.Node.{node_at}
use Rattle.semantics.specs.Graph.Path.{Graph}
use Rattle.semantics.specs.Graph.CornerGraph.{number_of, start_node, corner_graph}
use Rattle.semantics.specs.Answers.Places.{IsPlace}
use Rattle.semantics.specs.Answers.Waiting.{Indexed}
use Rattle.table.specs.Held.{automaton_of, IsTable}
use Rattle.rules.specs.Rules.{IsRules}
use Rattle.regions.specs.declared.nodes.NodeRegion.{NodeRegion}
use Rattle.regions.specs.Held.{most_timers, pad, view, Valid}
use Rattle.regions.specs.Nodes.{node_region}
use Rattle.space.specs.declared.Space.{Space}

-- The graph of a table for the goal l, and the node where chains begin.
abbrev pub graph_of : List ℕ → ℕ → Graph
graph_of t l = corner_graph (automaton_of t) l

abbrev pub start_of : List ℕ → ℕ
start_of t = start_node (automaton_of t)

-- The struct has E, the number of a mode's nodes, the number of timers, and the ceilings.
pub record IsSpace (t : List ℕ) (s : Space) : Type 0 where
  pub nodes-are : s.nodes ≡ node_count (automaton_of t)
  pub block-is : s.block ≡ cell_count (automaton_of t).ceilings * corner_count (timers (automaton_of t)) 1
  pub timers-are : s.timers ≡ timers (automaton_of t)
  pub ceilings-are : s.ceilings ≡ pad most_timers (automaton_of t).ceilings

-- The struct is that of a table.
pub record StartReady (s : Space) : Type 0 where
  pub table : List ℕ
  pub is-table : IsTable table
  pub is-space : IsSpace table s

-- The node is where the chains of that table begin.
abbrev pub IsStart : Space → ℕ → Type 0
IsStart s r = (t : List ℕ) → IsTable t → IsSpace t s → r ≡ start_of t

-- A table that is searched. E is not 65,536, since it is a multiple of 3, 13 or 75.
pub record Setting (t rs : List ℕ) (s : Space) : Type 0 where
  pub is-table : IsTable t
  pub is-rules : IsRules t rs
  pub is-space : IsSpace t s
  pub few : s.nodes ≤ 65535

-- The place of a struct.
abbrev pub place_at : NodeRegion → Place
place_at z = record { mode = z.mode; region = view z.region }

-- The struct is of a corner of a place of the table. The prices of its region are the indices of its corners.
pub record IsCorner (t : List ℕ) (z : NodeRegion) : Type 0 where
  pub valid : Valid z.region
  pub timers-are : z.region.timers ≡ timers (automaton_of t)
  pub place : IsPlace (automaton_of t) (place_at z)
  pub indexed : Indexed (view z.region)
  pub first-is : z.first ≡ number_of (automaton_of t) (place_at z) 0
  pub inside : z.index ≤ top (view z.region)

-- The place of which node v is a corner, with the indices of its corners as prices.
abbrev pub place_of : Automaton → ℕ → Place
place_of a v = record { mode = (node_at a.ceilings v).mode; region = node_region (node_at a.ceilings v) }

-- The graph that the search goes through: its nodes are the corners of all regions in all modes, by their numbers, and its edges are the
-- corner edges of the allowed steps, each labelled with the byte of its step. A path into the goal mode then goes along a chain, from corner
-- to corner, and its charge is what it adds to the price at which it begins.
-- Assumes nothing.
use mathlib.Core.List.{List, [], ◌∷◌, map, Memᴰ}
use Rattle.std.proofs.Math.Option.{none, some}
use Rattle.std.specs.Prelude.{ℕ, suc, max, ◌≤◌, eqb, replicate}
use Rattle.semantics.specs.Automaton.{Mode, Move, Automaton}
use Rattle.semantics.specs.Corners.Corner.{flat_map}
use Rattle.semantics.specs.Graph.Path.{Edge, Graph}
use Rattle.semantics.specs.NodeCount.{node_count}
use Rattle.semantics.specs.Nodes.Node.{Node, node_of, node_number, node_at}
use Rattle.semantics.specs.Chain.{Place, step, begin}
use Rattle.semantics.specs.Corners.Edges.{Edge as CornerEdge, edges}
use Rattle.semantics.specs.Answer.{step_bytes}

-- k, the number of the highest group.
abbrev pub highest : List ℕ → ℕ
highest [] = 0
highest (g ∷ gs) = max g (highest gs)

-- A place of which the node is a corner. Its k + 1 prices are all 0: steps and edges do not go by what the prices are.
abbrev pub node_place : Node → Place
node_place x = record {
  mode = x.mode;
  region = record { whole = x.whole; group = x.corner.group; prices = replicate (suc (highest x.corner.group)) 0 };
}

-- The number of the node that is corner j of a place.
abbrev pub number_of : Automaton → Place → ℕ → ℕ
number_of a p j = node_number a.ceilings (node_of p.mode p.region j)

-- The node at which every chain begins.
abbrev pub start_node : Automaton → ℕ
start_node a = number_of a (begin a) 0

-- A corner edge of a step to the place p, as an edge between numbers.
abbrev pub numbered : Automaton → ℕ → Place → CornerEdge → Edge
numbered a byte p e = record { label = byte; weight = e.weight; to = number_of a p e.corner }

-- The edges of a step from corner j of a place, if the step is allowed there.
abbrev pub step_edges : Automaton → Place → ℕ → ℕ → List Edge
step_edges a p j byte = elim (step a byte p) [ none ↦ [] | some p' ↦ map (numbered a byte p') (edges a byte p j) ]

-- The edges of all steps from corner j of a place.
abbrev pub place_edges : Automaton → Place → ℕ → List Edge
place_edges a p j = flat_map (step_edges a p j) step_bytes

-- The graph for the goal l: the nodes of mode l are the targets.
unfoldable pub corner_graph : Automaton → ℕ → Graph
corner_graph a l = record {
  nodes = node_count a;
  edges = λ v. let x = node_at a.ceilings v in place_edges a (node_place x) x.corner.index;
  is_target = λ v. eqb (node_at a.ceilings v).mode l;
}

-- No rate and no price is above w: then no edge weighs more.
pub record PricesWithin (a : Automaton) (w : ℕ) : Type 0 where
  pub rates : (m : Mode) → Memᴰ m a.modes → m.rate ≤ w
  pub prices : (e : Move) → Memᴰ e a.moves → e.price ≤ w

-- Edges that are tight by a table of costs, and the corners to which they lead from marked ones. The walk by sets of corners marks those next.
-- Assumes nothing.
use Rattle.std.specs.Prelude.{◌≡◌, ℕ, suc, ◌+◌, ◌<◌, length}
use Rattle.semantics.specs.Automaton.{Automaton}
use Rattle.semantics.specs.Order.{cost}
use Rattle.semantics.specs.Graph.Path.{Edge, Graph, Leaves as LeavesNode, Entry, reached}
use Rattle.semantics.specs.Chain.{Place}
use Rattle.semantics.specs.Graph.CornerGraph.{number_of, corner_graph}

-- By the table node v is reached in n steps, and w at this weight more, in one step more.
pub record Grows (d : ℕ → Entry) (n weight v w : ℕ) : Type 0 where
  pub charge : ℕ
  pub from : d v ≡ reached (cost charge n)
  pub to : d w ≡ reached (cost (charge + weight) (suc n))

-- An edge with the label k leads from v to w, and by the table it is tight: w is reached along it.
pub record Tight (g : Graph) (d : ℕ → Entry) (n k v w : ℕ) : Type 0 where
  pub edge : Edge
  pub leaves : LeavesNode g v edge
  pub labelled : edge.label ≡ k
  pub leads : edge.to ≡ w
  pub grows : Grows d n edge.weight v w

module _ (a : Automaton) (l : ℕ) (d : ℕ → Entry) (p : Place) (n : ℕ) (S : ℕ → Type 0) where
  -- A tight edge with the label k leads from a marked corner to corner i of the place z.
  pub record Led (k : ℕ) (z : Place) (i : ℕ) : Type 0 where
    pub there : i < length z.region.prices
    pub corner : ℕ
    pub marked : S corner
    pub tight : Tight (corner_graph a l) d n k (number_of a p corner) (number_of a z i)

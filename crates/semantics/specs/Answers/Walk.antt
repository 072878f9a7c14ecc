-- The entries that a search leaves in its words, by which the walk finds the route.
-- Assumes nothing.
use Rattle.std.specs.Prelude.{◌≡◌}
use Prim.Native.Nat.{ℕ, ◌<◌}
use Rattle.semantics.specs.Graph.Path.{Graph, Entry}
use Rattle.semantics.specs.Graph.Distance.{distance}
use Rattle.semantics.specs.Graph.Near.{turned, near}

-- The entry that a search leaves for the node v.
abbrev pub near_entry : Graph → ℕ → ℕ → Entry
near_entry g s v = near (distance g s) (distance (turned g s) v)

-- The table has those of all nodes.
abbrev pub NearCosts : Graph → ℕ → (ℕ → Entry) → Type 0
NearCosts g s d = (v : ℕ) → v < g.nodes → d v ≡ near_entry g s v

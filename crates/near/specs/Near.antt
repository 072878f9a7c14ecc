-- What the function that finds the goal's cost in the words asks and does; and the entry of a cost.
-- Assumes nothing.
use Rattle.std.specs.Prelude.{◌≡◌, ◌⊎◌, ◌≢◌, List, ℕ, ◌+◌, ◌*◌, ◌/◌, ◌≤◌, ◌<◌, Option, Some, None, length}
use Rattle.semantics.specs.Order.{cost}
use Rattle.semantics.specs.Graph.Path.{Entry, unreached, reached, infinity, charge_at, steps_at}
use Rattle.semantics.specs.Paths.Words.{Blank}
use Rattle.regions.specs.Nodes.{most_modes, most_nodes}
use Rattle.near.specs.declared.Cost.{Cost as CostHeld}

-- The entry of a cost, if there is one.
abbrev pub cost_entry : Option CostHeld → Entry
cost_entry None = unreached
cost_entry (Some r) = reached (cost r.charge r.steps)

-- There are words for the nodes.
pub record NearRoom (nodes : ℕ) (ws : List ℕ) : Type 0 where
  pub few : nodes ≤ most_nodes
  pub room : 2 * nodes ≤ length ws

-- Each mode has the same number of nodes, and an unreached node has infinity in both words.
pub record BestRoom (nodes modes : ℕ) (ws : List ℕ) : Type 0 where
  pub words : NearRoom nodes ws
  pub some : 1 ≤ modes
  pub modes-few : modes ≤ most_modes
  pub shared : modes * (nodes / modes) ≡ nodes
  pub blank : (v : ℕ) → v < nodes → Blank ws v

-- Node v is one of the mode's.
abbrev pub InMode : ℕ → ℕ → ℕ → ℕ → Type 0
InMode nodes mode modes v = (mode < modes) × (mode * (nodes / modes) ≤ v) × (v < mode * (nodes / modes) + nodes / modes)

-- The least cost of the mode's nodes.
pub record BestCost (nodes mode modes : ℕ) (ws : List ℕ) (r : CostHeld) : Type 0 where
  pub known : r.charge ≢ infinity
  pub attained : (v : ℕ) × InMode nodes mode modes v × (charge_at ws v ≡ r.charge) × (steps_at ws v ≡ r.steps)
  pub least :
      (v : ℕ) → InMode nodes mode modes v → (r.charge < charge_at ws v) ⊎ ((r.charge ≡ charge_at ws v) × (r.steps ≤ steps_at ws v))

-- It is handed back, or none of them is reached.
abbrev pub IsBest : ℕ → ℕ → ℕ → List ℕ → Option CostHeld → Type 0
IsBest nodes mode modes ws None = (v : ℕ) → InMode nodes mode modes v → charge_at ws v ≡ infinity
IsBest nodes mode modes ws (Some r) = BestCost nodes mode modes ws r

-- The targets that a search forwards comes to: the least of their entries, and whether one is within a cost.
-- Assumes nothing.
use Rattle.std.specs.Prelude.{◌≡◌, ℕ, ◌<◌}
use Rattle.semantics.specs.Order.{Cost, ◌≼◌}
use Rattle.semantics.specs.Graph.Path.{Graph, Target, Entry, unreached, reached, Within}

-- b is the least entry of the targets.
pub record BestTarget (g : Graph) (d : ℕ → Entry) (b : Entry) : Type 0 where
  pub none : b ≡ unreached → (v : ℕ) → v < g.nodes → Target g v → d v ≡ unreached
  pub some : (c : Cost) → b ≡ reached c → (v : ℕ) × (v < g.nodes) × Target g v × (d v ≡ reached c)
  pub least : (c : Cost) → b ≡ reached c → (v : ℕ) (a : Cost) → v < g.nodes → Target g v → d v ≡ reached a → c ≼ a

-- Some target has an entry that costs at most c.
pub record TargetWithin (g : Graph) (d : ℕ → Entry) (c : Cost) : Type 0 where
  pub node : ℕ
  pub inside : node < g.nodes
  pub target : Target g node
  pub within : Within (d node) c

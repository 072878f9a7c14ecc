-- Entries that are within a cost.
-- Assumes nothing.
use Rattle.std.specs.Prelude.{◌≡◌, refl}
use Rattle.semantics.specs.Order.{Cost, ◌≼◌}
use Rattle.semantics.specs.Graph.Path.{Entry, unreached, reached, Within}
use Rattle.semantics.specs.Paths.Cost.{cost-trans}

-- The cost of an entry that is within c.
pub record EntryCost (x : Entry) (c : Cost) : Type 0 where
  pub cost : Cost
  pub entry : x ≡ reached cost
  pub within : cost ≼ c

pub within-cost : (x : Entry) (c : Cost) → Within x c → EntryCost x c
within-cost unreached c h = absurd h
within-cost (reached b) c h = record { cost = b; entry = refl; within = h }

pub within-trans : (x : Entry) (b c : Cost) → Within x b → b ≼ c → Within x c
within-trans unreached b c h k = h
within-trans (reached a) b c h k = cost-trans a b c h k

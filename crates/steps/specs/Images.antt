-- What resets do at the place where a walk stands, as one word.
-- Assumes nothing.
use Rattle.std.specs.Prelude.{◌≡◌, List, ℕ, ◌*◌, ◌/◌, ◌%◌, ◌^◌, ◌<◌, get_or, take}
use Rattle.semantics.specs.Region.{PricedRegion, top, reset_all}
use Rattle.semantics.specs.Nodes.Node.{node_of, node_number}
use Rattle.regions.specs.declared.Region.{Region}
use Rattle.regions.specs.declared.nodes.NodeRegion.{NodeRegion}
use Rattle.regions.specs.Held.{view, Valid}
use Rattle.space.specs.declared.Space.{Space}
use Rattle.space.specs.Images.{LastAtMost}

-- The corner to which corner j goes: a map has two bits for each.
abbrev pub corner_of : ℕ → ℕ → ℕ
corner_of map j = map / 2 ^ (2 * j) % 4

-- A region after resets has prices by which each corner goes to the last one whose price is at most its own index.
pub record RegionReady (moved : Region) : Type 0 where
  pub valid : Valid moved
  pub first-price : get_or (view moved).prices 0 0 ≡ 0

pub record Goes (r : PricedRegion) (map : ℕ) : Type 0 where
  pub few : map < 256
  pub each : (j : ℕ) → j < 4 → LastAtMost r.prices (top r) j (corner_of map j)

-- The image of resets: corner 0 of the region after them, as a node of mode 0, in the low half, and the map above it. This determines it.
pub record IsImage (s : Space) (z : NodeRegion) (xs : List ℕ) (image : ℕ) : Type 0 where
  pub first : image % 65536 ≡ node_number (take z.region.timers s.ceilings) (node_of 0 (reset_all xs (view z.region)) 0)
  pub map : Goes (reset_all xs (view z.region)) (image / 65536)

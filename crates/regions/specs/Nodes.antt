-- How many nodes a table has, and how the struct `NodeAt` holds a node.
-- Assumes nothing.
use Rattle.std.specs.Prelude.{◌≡◌, cond, List, ℕ, suc, leb, take, Option, Some, None}
use Rattle.semantics.specs.Region.{PricedRegion}
use Rattle.semantics.specs.Answer.{count_from}
use Rattle.semantics.specs.Nodes.Node.{Node, node_of, node_number}
pub use Rattle.table.specs.Fields.{most_modes, most_ceiling}
pub use Rattle.corners.specs.Cells.{most_cells, most_cell_number, CeilingsFew}
use Rattle.corners.specs.Held.{pack_corner}
use Rattle.regions.specs.declared.nodes.NodeAt.{NodeAt}
use Rattle.regions.specs.declared.nodes.NodeRegion.{NodeRegion}
use Rattle.regions.specs.Held.{most_timers, pad, pack, highest}

-- "E may be at most 65,536."
abbrev pub most_nodes : ℕ
most_nodes = 65536

abbrev pub bounded : ℕ → Option ℕ
bounded e = cond (leb e most_nodes) (Some e) None

-- Behind the first n ceilings there is 0.
abbrev pub Padded : ℕ → List ℕ → Type 0
Padded n ceilings = ceilings ≡ pad most_timers (take n ceilings)

-- The struct that holds a node.
unfoldable pub pack_node : Node → NodeAt
pack_node x = record { mode = x.mode; whole = pad most_timers x.whole; corner = pack_corner x.corner }

-- The region of which a node is a corner, with its corners' indices as prices.
abbrev pub node_region : Node → PricedRegion
node_region x = record { whole = x.whole; group = x.corner.group; prices = count_from 0 (suc (highest x.corner.group)) }

-- The struct that holds it, for the ceilings by which nodes have their numbers.
unfoldable pub pack_node_region : List ℕ → Node → NodeRegion
pack_node_region ceilings x = record {
  mode = x.mode;
  region = pack (node_region x);
  first = node_number ceilings (node_of x.mode (node_region x) 0);
  index = x.corner.index;
}

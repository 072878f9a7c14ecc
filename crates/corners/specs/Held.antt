-- How the struct `CornerAt` holds a corner.
-- Assumes nothing.
use Rattle.semantics.specs.Corners.Corner.{Corner}
use Rattle.semantics.specs.Graph.CornerGraph.{highest}
use Rattle.table.specs.Fields.{most_timers}
use Rattle.table.specs.Held.{pad}
use Rattle.corners.specs.declared.tables.CornerAt.{CornerAt}

-- The struct that holds a corner.
unfoldable pub pack_corner : Corner → CornerAt
pack_corner c = record { group = pad most_timers c.group; index = c.index; top = highest c.group }

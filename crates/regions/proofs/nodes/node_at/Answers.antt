-- `regions::nodes::node_at` meets its contract.
-- Assumes nothing.
use mathlib.Core.Path.{◌≡◌}
use borrow.Author.Rules.{rules}
use lib.ListN.{length}
use Rattle.regions.proofs.Cells.{node-at-is}
use Rattle.regions.proofs.nodes.node_at.Goals as goal

-- The corner's number.
pub returns : goal.returns
returns c =
    let l = c.args.ceilings in
    let three : length l ≡ 3 = search rules in
    rw
    (c.corner_at.ensures, c.cell_at.ensures, c.corner_count-corners.ensures.0, c.cells-cells.ensures.0)
    (node-at-is l three c.args.timers c.requires.1 c.requires.3 c.args.number)

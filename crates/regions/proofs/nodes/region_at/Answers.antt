-- `regions::nodes::region_at` meets its contract.
-- Assumes nothing.
use mathlib.Core.Path.{◌≡◌}
use borrow.Author.Rules.{rules}
use lib.ListN.{length}
use Rattle.regions.proofs.NodeRegion.{index-few, node-region-is}
use Rattle.regions.proofs.nodes.region_at.Goals.{Start}
use Rattle.regions.proofs.nodes.region_at.Goals as goal

sized : (c : Start) → length c.args.ceilings ≡ 3
sized c = search rules

pub overflow_sub-result : goal.overflow_sub-result
overflow_sub-result c =
    index-few c.args.timers c.args.ceilings (sized (goal.at.overflow_sub-result c).Start) c.requires.0 c.requires.1 c.args.number
    c.node_at-mode.result c.node_at-mode.ensures

pub returns : goal.returns
returns c =
    rw (c.index_to.ensures, c.index_to-2.ensures, c.index_to-3.ensures)
    (node-region-is c.args.timers c.args.ceilings (sized (goal.at.returns c).Start) c.requires.0 c.requires.1 c.args.number
    c.node_at-mode.result c.node_at-mode.ensures)

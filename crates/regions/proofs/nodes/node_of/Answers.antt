-- `regions::nodes::node_of` meets its contract.
-- Assumes nothing.
use Prim.Native.Nat.{◌+◌, ◌*◌}
use mathlib.Core.Path.{◌≡◌}
use native.Mathlib.Omega.{arith}
use borrow.Author.Rules.{rules}
use lib.ListN.{length}
use Rattle.regions.specs.Held.{view}
use Rattle.regions.specs.Laws.Nodes.{corners-few}
use Rattle.regions.specs.Laws.Fields.{holds}
use Rattle.regions.specs.Laws.Corners.{corner-below}
use Rattle.regions.proofs.Cells.{product-few, node-number-is}
use Rattle.regions.proofs.nodes.node_of.Goals as goal

-- No product and no sum is too large.
pub overflow_add-result : goal.overflow_add-result
overflow_add-result c =
    let r = c.args.region in
    let h = holds r c.requires.0 in
    let cells = product-few c.args.mode c.cells.result 16 4096 (omega (arith, c.requires.2)) c.cells.ensures.2 in
    let corners =
    product-few (c.args.mode * c.cells.result + c.cell_number.result) c.corner_count.result 135151 75
    (omega (arith, cells, c.cell_number.ensures.1)) c.corner_count.ensures.2
    in
    omega (
      arith,
      corners,
      c.corner.ensures,
      corner-below r (view r) h c.args.index c.requires.1,
      corners-few r.timers c.requires.0.few,
    )

pub returns : goal.returns
returns c =
    let r = c.args.region in
    let l = c.args.ceilings in
    let three : length l ≡ 3 = search rules in
    let cells = c.cells.ensures.0 in
    let cell = c.cell_number.ensures.0 in
    rw (cells, cell, c.corner_count.ensures.0, c.from.ensures, c.corner.ensures)
    (node-number-is l three r (view r) (holds r c.requires.0) c.requires.4 c.args.mode c.args.index)

-- `steps::image_of` meets its contract.
-- Assumes nothing.
use native.Mathlib.Omega.{arith}
use Rattle.space.proofs.Imaging.{moved_ready}
use Rattle.steps.proofs.Imaged.{image-region, image-few, image-made}
use Rattle.steps.proofs.image_of.Goals as goal

pub node_of-first-requires : goal.node_of-first-requires
node_of-first-requires c = moved_ready c.requires c.reset_all-moved.ensures 0 (omega arith)

pub overflow_cast-first : goal.overflow_cast-first
overflow_cast-first c =
    omega (arith, image-few c.requires c.reset_all-moved.result c.reset_all-moved.ensures _ c.node_of-first.ensures)

pub corners_after-requires : goal.corners_after-requires
corners_after-requires c =
    image-region c.requires c.reset_all-moved.result c.reset_all-moved.ensures

pub overflow_add-result : goal.overflow_add-result
overflow_add-result c =
    omega (
      arith,
      c.corners_after.ensures.few,
      image-few c.requires c.reset_all-moved.result c.reset_all-moved.ensures _ c.node_of-first.ensures,
    )

pub returns : goal.returns
returns c =
    image-made c.requires c.reset_all-moved.result c.reset_all-moved.ensures _ c.node_of-first.ensures _ c.corners_after.ensures

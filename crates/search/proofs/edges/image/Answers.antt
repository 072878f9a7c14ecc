-- `search::edges::image` meets its contract.
-- Assumes nothing.
use Prim.Native.Nat.{◌%◌}
use native.Mathlib.Omega.{arith}
use lib.ListN.{get_or}
use Rattle.space.specs.Images.{NodeImage, ImageDone}
use Rattle.space.specs.Laws.Images.{image-kept, image-stored}
use Rattle.space.proofs.Imaging.{image-few}
use Rattle.search.proofs.edges.image.Goals.{Joined-images-k, then-images-k, else-images-k}
use Rattle.search.proofs.edges.image.Goals as goal

-- The array after the test, with what is read from it.
done : (c : Joined-images-k) → ImageDone (NodeImage c.args.space c.args.at) c.args.resets c.if-images-k.images
    (get_or c.if-images-k.images (c.args.resets % 8) 0)
done c =
    elim c.if-images-k.branch [
      | then-images-k w ↦ image-stored c.requires.1 c.args.resets _ _ w.image_of.ensures w.images-is
      | else-images-k w ↦ image-kept c.requires.1 c.args.resets _ w.if-images-k.false w.images-is
    ]

pub overflow_cast-images : goal.overflow_cast-images
overflow_cast-images c =
    let few = image-few c.requires.0 in omega (arith, few, c.image_of.ensures)

pub overflow_cast-result : goal.overflow_cast-result
overflow_cast-result c =
    let few = image-few c.requires.0 in omega (arith, few, (done c.before.before.before).is)

pub returns : goal.returns
returns c = done c.before.before.before

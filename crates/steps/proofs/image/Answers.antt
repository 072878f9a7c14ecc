-- `steps::image` meets its contract.
-- Assumes nothing.
use Prim.Native.Nat.{◌%◌}
use lib.ListN.{get_or}
use Rattle.space.specs.Images.{ImageDone}
use Rattle.space.specs.Laws.Images.{image-kept, image-stored}
use Rattle.steps.specs.Images.{IsImage}
use Rattle.steps.proofs.image.Goals.{Joined-images-k, then-images-k, else-images-k}
use Rattle.steps.proofs.image.Goals as goal

-- The array after the test, with what is read from it.
done : (c : Joined-images-k) → ImageDone (IsImage c.args.space c.args.at) c.args.resets c.if-images-k.images
    (get_or c.if-images-k.images (c.args.resets % 8) 0)
done c =
    elim c.if-images-k.branch [
      | then-images-k w ↦ image-stored c.requires.1 c.args.resets _ _ w.image_of.ensures w.images-is
      | else-images-k w ↦ image-kept c.requires.1 c.args.resets _ w.if-images-k.false w.images-is
    ]

pub returns : goal.returns
returns c = done c.before.before.before

-- `steps::corners_after` meets its contract.
-- Assumes nothing.
use Rattle.steps.proofs.Imaged.{after-goes}
use Rattle.steps.proofs.corners_after.Goals as goal

pub returns : goal.returns
returns c =
    after-goes c.args.moved c.requires _ c.prices-prices.ensures _ c.top-last.ensures c.last_at_most-from_0.ensures
    c.last_at_most-from_1.ensures c.last_at_most-from_2.ensures c.last_at_most-from_3.ensures

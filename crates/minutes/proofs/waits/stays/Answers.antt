-- `minutes::waits::stays` meets its contract.
-- Assumes nothing.
use Rattle.minutes.proofs.Waiting.{stays-done}
use Rattle.minutes.proofs.waits.stays.Goals as goal

pub returns : goal.returns
returns c = stays-done c.requires.room c.halves.result c.halves.ensures c.all_inside.result c.all_inside.ensures

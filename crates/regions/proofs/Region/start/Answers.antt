-- `regions::Region::start` meets its contract.
-- Assumes nothing.
use Rattle.regions.proofs.Methods.{started-is}
use Rattle.regions.proofs.Region.start.Goals as goal

pub returns : goal.returns
returns c = started-is c.args.timers c.requires

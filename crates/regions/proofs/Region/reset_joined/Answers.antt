-- `regions::Region::reset_joined` meets its contract.
-- Assumes nothing.
use Rattle.regions.specs.Held.{view}
use Rattle.regions.specs.Laws.Fields.{holds}
use Rattle.regions.proofs.Methods.{reset-joined-is}
use Rattle.regions.proofs.Region.reset_joined.Goals as goal

pub returns : goal.returns
returns c = let s = c.args.self in reset-joined-is s (view s) (holds s c.requires.0) c.args.timer c.requires.2

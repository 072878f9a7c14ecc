-- `regions::Region::prices` meets its contract.
-- Assumes nothing.
use Rattle.regions.specs.Held.{view}
use Rattle.regions.specs.Laws.Fields.{holds, prices-is}
use Rattle.regions.proofs.Region.prices.Goals as goal

pub returns : goal.returns
returns c = let s = c.args.self in prices-is s (view s) (holds s c.requires)

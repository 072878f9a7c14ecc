-- `regions::Region::top` meets its contract.
-- Assumes nothing.
use mathlib.Core.Path.{◌∙◌}
use Rattle.regions.specs.Held.{view}
use Rattle.regions.specs.Laws.Fields.{holds, top-is}
use Rattle.regions.proofs.Region.top.Goals as goal

pub returns : goal.returns
returns c = let s = c.args.self in c.from.ensures ∙ top-is s (view s) (holds s c.requires)

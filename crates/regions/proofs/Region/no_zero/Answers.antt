-- `regions::Region::no_zero` meets its contract.
-- Assumes nothing.
use Rattle.regions.specs.Held.{view}
use Rattle.regions.proofs.Region.no_zero.Goals as goal

pub returns : goal.returns
unfolding view
returns c = rw c.from.ensures at c.none_zero.ensures

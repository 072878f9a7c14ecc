-- `steps::with` meets its contract.
-- Assumes nothing.
use Rattle.steps.proofs.Sets.{shifted, with-corner}
use Rattle.steps.proofs.with.Goals as goal

pub returns : goal.returns
returns c = rw (shifted c.args.corner c.requires.1) (with-corner c.args.set c.args.corner c.requires.0 c.requires.1)

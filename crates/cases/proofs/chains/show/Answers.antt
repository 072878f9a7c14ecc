-- `cases::chains::show` meets its contract.
-- Assumes nothing.
use Rattle.cases.proofs.Steps.{node-ready}
use Rattle.cases.proofs.chains.show.Goals as goal

pub node_of-node-requires : goal.node_of-node-requires
node_of-node-requires g c = node-ready c.requires _ c.ceilings.ensures

-- `space::start_node` meets its contract.
-- Assumes nothing.
use native.Mathlib.Omega.{arith}
use Rattle.space.proofs.Spaces.{start-ready, start_is}
use Rattle.space.proofs.start_node.Goals as goal

pub node_of-requires : goal.node_of-requires
node_of-requires c =
    let o = start-ready c.args.space c.requires.table c.requires.is-table c.requires.is-space c.start.result c.start.ensures in
    (o.0, o.1, omega arith, o.3, o.4)

pub returns : goal.returns
returns c = λ t h is.
    start_is c.args.space t h is c.start.result c.start.ensures c.node_of.result
    c.node_of.ensures

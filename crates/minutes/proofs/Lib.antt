-- What the proofs of the crate share.
pub mod Waiting
-- Relaxing the pairs of a node.
pub mod Offers
pub mod MoveRelaxing
pub mod PairRelaxing
-- What a search asks of the graph.
pub mod Settling

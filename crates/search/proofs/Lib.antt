-- What the proofs of the search share.
pub mod Offers
-- The edges of waits.
pub mod WaitRelaxing
pub mod Waits
-- The edges of moves.
pub mod MoveRelaxing
-- All edges.
pub mod AllEdges
-- From the first words to those that are left.
pub mod Seeding
pub mod Turning
pub mod Settling
pub mod Keeping
pub mod Nearing

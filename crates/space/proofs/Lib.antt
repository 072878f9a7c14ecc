-- What the proofs of the crate share, and those of the search and of the steps cite.
pub mod Settings
pub mod Spaces
pub mod Delayed
pub mod MovesFrom
-- The edges of waits.
pub mod WaitEdges
-- The edges of moves.
pub mod TimerTests
pub mod OpenMoves
pub mod Imaging
pub mod MoveEdges

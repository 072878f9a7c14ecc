-- What the contracts of the queue cite.
pub mod Tournament
pub mod Queue
-- And those of its private functions.
pub mod Playing
-- Theorems:
pub mod Tournaments
-- What a caller cites of them.
pub mod Laws

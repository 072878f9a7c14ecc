-- What the contracts of the search cite.
pub mod Outcome
-- And those of its private functions.
pub mod Exploring
pub mod Room
pub mod Edges
pub mod Waits
pub mod Keep
pub mod Seeding
-- And the search of any graph.
pub mod Searches
-- What a caller cites of them.
pub mod Laws

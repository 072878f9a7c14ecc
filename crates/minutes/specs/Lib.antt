-- What the contracts of the crate mean.
pub mod Settings
pub mod Waits
pub mod Edges
-- What follows from them.
pub mod Laws

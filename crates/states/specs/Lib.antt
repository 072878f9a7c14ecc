-- What the contracts of the crate mean.
pub mod States
-- What follows from them.
pub mod Laws

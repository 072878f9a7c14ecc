-- What the contract of `best` cites.
pub mod Near

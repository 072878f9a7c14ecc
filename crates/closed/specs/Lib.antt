-- What the contracts of the private functions mean.
pub mod Closed

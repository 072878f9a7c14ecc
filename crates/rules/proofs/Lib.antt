-- The laws that the functions' proofs cite.
pub mod Writing
pub mod Filling
pub mod Joining
pub mod Capping
pub mod Ordering
pub mod Whole

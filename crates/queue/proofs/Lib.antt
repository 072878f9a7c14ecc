-- The laws that the functions' proofs cite.
pub mod Slots
pub mod Winning
pub mod GoingUp
pub mod Replays
pub mod Storing
pub mod Relaxing

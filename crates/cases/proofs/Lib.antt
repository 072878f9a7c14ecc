-- The laws that the functions' proofs cite.
pub mod Steps
pub mod OneCell
pub mod Given

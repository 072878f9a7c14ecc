-- The laws that the functions' proofs cite.
pub mod Codes
pub mod Narrowing

-- What the proofs of the exported calls use.
pub mod Telling
pub mod Timing
pub mod Writing
pub mod Answered

-- The lines of an answer: the definition, examples, how they stand in a destination, and how many bytes they are at most.
pub mod Lines
pub mod Examples
pub mod Destination
pub mod Short
-- What `plan` prints.
pub mod Text
-- What the contracts of the private functions cite.
pub mod Put
-- The laws that the proofs cite.
pub mod Counting

-- The fields of a table, the automaton that they stand for, and the bytes that hold them.
pub mod Fields
pub mod Meaning
pub mod Held
pub mod Refusals
pub mod Theorems

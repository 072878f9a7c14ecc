-- Theorems about the definitions.
pub mod Putting

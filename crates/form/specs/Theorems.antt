-- Theorems about the definitions.
pub mod Appending
pub mod Said
pub mod Widening

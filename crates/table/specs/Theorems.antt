-- Theorems about the definitions.
pub mod Holding
pub mod Access

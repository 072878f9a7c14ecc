-- Theorems about tournaments.
pub mod Matches
pub mod Least
pub mod Raising
pub mod Replaying

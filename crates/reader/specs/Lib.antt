-- The bytes of a table and what they stand for.
pub mod Parser
pub mod Format
pub mod Layout
pub mod Read
pub mod Reading
pub mod Step
pub mod Theorems

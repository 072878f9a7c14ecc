-- Theorems about the definitions.
pub mod Bits
pub mod Mirrors
pub mod Records
pub mod Tables
pub mod Faults
pub mod Reads
pub mod InRange
pub mod Compacting
pub mod Again
pub mod Refusals

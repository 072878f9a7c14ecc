-- Theorems about the definitions.
pub mod Running
pub mod Exactly
pub mod Bits
pub mod RecordLayouts
pub mod Accepts
pub mod Refusals
pub mod Rows
pub mod Limits
pub mod Longer
pub mod Proper
pub mod Accepted
pub mod Starred

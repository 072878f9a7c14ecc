-- The fields of a table as a configuration page holds them.
pub mod Form
pub mod Formed
pub mod Filled
pub mod Appends
pub mod Theorems

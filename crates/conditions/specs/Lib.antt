-- The windows that the contracts cite, and what a caller concludes of them.
pub mod Comparisons
pub mod Windows
pub mod Narrow

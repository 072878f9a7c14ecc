pub mod Putting
pub mod Stepping
pub mod Chains
pub mod Filling

pub mod Giving
pub mod Collecting
pub mod Writing
pub mod Copying
pub mod Whole
pub mod Zero

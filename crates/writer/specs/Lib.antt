-- What writing gives.
pub mod Written
pub mod Theorems

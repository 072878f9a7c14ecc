-- What follows from the contracts: bounds, and arrays that show a state.
pub mod Bounds
pub mod Shows

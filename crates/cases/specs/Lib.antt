-- What operations and steps keep.
pub mod Kept

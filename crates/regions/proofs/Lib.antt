-- The laws that the functions' proofs cite.
pub mod Pads
pub mod Methods
pub mod Resets
pub mod Ceilings
pub mod Numbers
pub mod Cells
pub mod NodeRegion

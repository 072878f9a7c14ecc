-- The laws of the structs: their fields, the chaining of methods, and the room for prices and whole parts.
pub mod Pads
pub mod Fields
pub mod Chain
pub mod Room
pub mod Corners
pub mod Nodes
pub mod NodeRegion

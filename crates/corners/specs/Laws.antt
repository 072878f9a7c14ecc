-- The laws of the corners of a cell: how many there are, and where the first corner of a region stands.
pub mod Corners

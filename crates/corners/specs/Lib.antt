-- How a struct holds a corner, the bounds of cells, and what stands in the tables.
pub mod Held
pub mod Cells
pub mod Tables
-- What a caller may conclude from a contract:
pub mod Laws

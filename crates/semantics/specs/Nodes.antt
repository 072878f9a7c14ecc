-- The numbers of nodes.
-- What nodes are and how they are numbered.
pub mod Node
-- Theorems:
pub mod Radix
pub mod Cells

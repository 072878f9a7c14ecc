-- Shortest paths in a graph: an attained and settled table gives exactly the least costs, and so does the distance as a function.
-- Paths and their costs:
pub mod Distance
-- Found forwards from a node, and the nodes on best paths from it.
pub mod Explored
pub mod Near
-- The distance as a function.
pub mod UpTo
-- Paths by their labels, and the walk that finds the first of them of least cost.
pub mod Walk
pub mod WalkOn
pub mod WalkEnd

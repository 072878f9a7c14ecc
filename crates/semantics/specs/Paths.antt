-- Shortest paths in a graph: what paths and tables of costs are made of, and the best route that is read off a table label by label.
-- Paths and their costs:
pub mod Pigeonhole
pub mod Loops
pub mod Cost
pub mod Distance
pub mod Least
-- Routes:
pub mod Labels
pub mod Better
pub mod System
pub mod Route
pub mod Start
pub mod FirstSome
pub mod Greedy
-- Tables in words:
pub mod Words
pub mod Sum
-- Found forwards from a node, and the nodes on best paths from it.
pub mod Turned
pub mod Lower
pub mod Explored
pub mod Near
pub mod Settling
pub mod Priced
-- The distance as a function.
pub mod Computed
pub mod Found
-- Paths by their labels, and the walk that finds the first of them of least cost.
pub mod Labelled

-- Theory, which nobody has to believe: the theorems that rest on the definitions of specs/.
-- The laws of priced regions.
pub mod Regions
-- The corners of a cell: how many there are, and their numbers.
pub mod Corners
-- The nodes of the search and their numbers.
pub mod Nodes
-- Shortest paths: what a search finds.
pub mod Paths
-- Runs against chains: demand 3.
pub mod Bounds
-- The answer: that it is the best of all chains, and how it is read off the words of a search.
pub mod Answers
-- Timetables in whole minutes: that the one of the definition is the best of all, and what it is charged.
pub mod Timetables

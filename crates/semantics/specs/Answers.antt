-- Places, and tables of the entries that a search leaves: what the contracts of the search and of the walk speak of.
-- The corner graph, and chains as a system over it.
pub mod Places
pub mod Modes
pub mod Waiting
-- The route by the words of a search forwards.
pub mod Walk
-- The same by sets of corners, with no prices.
pub mod Marks

-- Timetables: the graph of minutes has exactly the timetables as its paths into the goal.
-- The tests, and the numbers of states.
pub mod Allowed
pub mod States
-- The graph of minutes: its edges are the allowed pairs, its paths the timetables.
pub mod Edges
pub mod Paths

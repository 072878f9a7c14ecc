-- The definitions to believe: what the contract of planning means, each page in document 01's words.
-- Conditions on timers, by code and value.
pub mod Condition
-- What a table stands for: modes, moves, ceilings, the goal.
pub mod Automaton
-- Runs of a unit and what they are charged.
pub mod Run
-- Priced regions: delay, linger, reset, charge, and when a region meets a condition.
pub mod Region
-- The points of a region.
pub mod Point
-- Chains of steps over priced regions.
pub mod Chain
-- E, the size of the search.
pub mod NodeCount
-- The order of routes: least charge, fewest steps, first in byte order.
pub mod Order
-- The answer for a goal: no route, or the best chain with its charge.
pub mod Answer
-- What demand 3 says of a charge, over runs.
pub mod Demand
-- Tables whose conditions are all ≤, = or ≥, and timetables in whole minutes.
pub mod Closed
pub mod Timetable
-- Theory, which nobody has to believe. Constructors are distinct.
pub mod Distinct
-- What the theorems ask of an automaton.
pub mod Automata
-- The laws of priced regions.
pub mod Regions
-- The corners of a cell: how many there are, their numbers, the edges between them.
pub mod Corners
-- The nodes of the search and their numbers.
pub mod Nodes
-- Graphs, their shortest paths, and the graph of corners.
pub mod Graph
-- Shortest paths: what a search finds.
pub mod Paths
-- Runs against chains: demand 3.
pub mod Bounds
-- The answer: that it is the best of all chains, and how it is read off the words of a search.
pub mod Answers
-- Timetables in whole minutes: that the one of the definition is the best of all, and what it is charged.
pub mod Timetables

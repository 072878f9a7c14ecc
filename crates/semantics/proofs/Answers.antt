-- The answer is the best of all chains, whatever their length; a table of least costs of the corner graph gives it; and it meets demand 3.
-- The corner graph, and chains as a system over it.
pub mod Places
pub mod Edges
pub mod Graph
pub mod Moving
pub mod Waiting
pub mod WaitingNodes
pub mod System
pub mod Comes
-- The recursion finds the best.
pub mod Better
pub mod Few
pub mod Best
-- Demand 3.
pub mod Demand
-- The answer by a table of least costs.
pub mod Table
-- The route by the words of a search forwards.
pub mod Forward
pub mod Onward
pub mod Walk
-- The same by sets of corners, with no prices.
pub mod Marks
pub mod Led
pub mod LedWaits
pub mod Trail
-- The answer that antt computes.
pub mod Computed

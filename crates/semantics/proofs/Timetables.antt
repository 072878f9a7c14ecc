-- Timetables: the one that the page Timetable computes is the best of all, and a closed table has one that is charged what its route is.
-- The recursion finds the best.
pub mod Few
pub mod Best
-- Corner paths of a closed table as runs in whole minutes; runs as pairs of a wait and a move; both together.
pub mod Points
pub mod CornerRuns
pub mod Paired
pub mod Exists

-- Graphs of numbered nodes, and the graph that the search goes through. The theorems about them are in Paths and Answers.
pub mod Path
pub mod Distance
pub mod Near
pub mod CornerGraph
pub mod MinuteGraph

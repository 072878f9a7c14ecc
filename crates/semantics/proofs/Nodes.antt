-- The numbers of nodes: each node has its own number below E, and each number below E its node.
pub mod Number
pub mod Regions

-- The laws of priced regions: each operation keeps a region well-formed, and what it does to lengths and to groups.
pub mod Lengths
pub mod WellFormed
pub mod Absent
pub mod Meets
pub mod Points
pub mod Windows
pub mod Commute

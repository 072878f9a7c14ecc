-- The laws of priced regions: each operation keeps a region well-formed, and what it does to lengths and to groups.
pub mod Lists
pub mod Count
pub mod Renumber
pub mod Cases
pub mod Lengths
pub mod Groups
pub mod Compare
pub mod Windows

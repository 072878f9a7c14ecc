-- The corners of a cell: how many there are, and that their numbers are theirs alone.
pub mod Count
pub mod Number

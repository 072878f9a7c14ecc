-- What a caller concludes from the rules of a table.
pub mod Moves
pub mod Windows

-- The corners of a cell: the list of them is complete and free of duplicates, has the length of the rule, and is ordered so that delay and
-- linger lead further on.
-- What corners are, how they are numbered, and the edges between them.
pub mod Corner
pub mod Edges
-- Theorems:
pub mod Lists
pub mod Piece
pub mod Every
pub mod Raise
pub mod Blocks
pub mod WeakOrders
pub mod Complete
pub mod Number
pub mod Rising

-- What the contracts of the crate cite; those of the search and of the steps cite it too.
pub mod Space
pub mod Halves
pub mod Moves
pub mod Images
-- What a caller cites of them.
pub mod Laws

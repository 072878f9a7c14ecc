-- How the crate's structs hold the regions and nodes of the definitions.
pub mod Held
pub mod Nodes
-- What a caller may conclude from a contract:
pub mod Laws

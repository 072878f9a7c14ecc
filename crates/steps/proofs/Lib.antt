-- What the proofs of the steps share.
pub mod Sets
pub mod Leads
pub mod Imaged
pub mod Standing
pub mod Trying
pub mod LeadingMoves
pub mod PassedMoves
pub mod LeadingWaits
pub mod Delaying

-- What a caller may conclude from the contracts.
pub mod Shares
pub mod NodeRegion
pub mod Images

-- What a caller may conclude from the contracts.
pub mod Lows
pub mod Keys
pub mod Pendings
pub mod First
pub mod Held
pub mod Changes
pub mod Once
pub mod Determined

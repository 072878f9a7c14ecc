-- What the contract of the call means.
pub mod Answers
pub mod Timetabled
pub mod Promise
-- That the outcome of the definitions keeps what is promised of it.
pub mod Same
pub mod Keeps
-- The definitions, computed.
pub mod Examples
-- What the contracts of the private functions mean.
pub mod Steps
pub mod Walk
pub mod Found

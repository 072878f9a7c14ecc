-- What the contract of planning means.
pub mod Answers
pub mod Plan
pub mod Promise
-- What the contract of the call that says how much to lend means.
pub mod Lend
-- Document 01's table of refusals, and that planning refuses by it.
pub mod Refusals
pub mod Refused
-- The outcome of the definitions keeps demands 2 and 3.
pub mod Keeps
-- What a charge is at most.
pub mod Charge
-- What the contracts of the private functions mean.
pub mod Walk
pub mod Found

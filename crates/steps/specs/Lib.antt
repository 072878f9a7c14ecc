-- What the contract of a step means.
pub mod Steps
-- And those of its private functions.
pub mod Images
pub mod Leading

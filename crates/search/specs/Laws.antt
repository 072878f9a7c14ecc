-- What a caller may conclude from the contracts.
pub mod Answers
pub mod Goal
pub mod FirstNode
pub mod Searchable

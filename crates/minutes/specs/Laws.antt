-- What follows from the contracts: the rows of the rules for a state, the edges of its pairs, and that their graph can be searched.
pub mod Rows
pub mod Pairs
pub mod Searchable

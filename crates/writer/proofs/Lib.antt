pub mod Rows
pub mod Grouping
pub mod Said
pub mod Placing

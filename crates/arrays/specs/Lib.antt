-- What the contracts cite.
pub mod Arrays

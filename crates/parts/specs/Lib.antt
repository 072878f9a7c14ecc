-- The bytes of a table made of its fields.
pub mod Part
pub mod Format
pub mod Compact
pub mod Overlays
pub mod Puts
pub mod Theorems

-- Runs against chains: sums, fractions and prices. The bounds themselves are among the theorems of proofs/.
-- Regions: their points by fractions, their prices, resets.
pub mod Entries
pub mod Prices
pub mod Gone
-- Conditions and ceilings, steps, places.
pub mod Steps
-- The lower bound: runs rounded to chains.
pub mod Floor
pub mod Sum
-- The upper bound: runs that come near a corner.
pub mod Runs

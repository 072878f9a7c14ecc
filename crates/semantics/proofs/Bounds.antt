-- Demand 3 over runs (Lower, Upper, Exists), and the law of corner prices along chains (Flow).
-- Regions: their points by fractions, their prices, resets.
pub mod Inside
pub mod Reset
pub mod Resets
pub mod Sides
-- Conditions and ceilings, steps, places.
pub mod Stays
pub mod Steps
pub mod Shapes
pub mod Alike
pub mod Moved
pub mod Reached
-- Prices along edges.
pub mod Flow
-- The lower bound: runs rounded to chains.
pub mod Rounding
pub mod Ticks
pub mod Roundings
pub mod Lower
-- The upper bound: runs that come near a corner.
pub mod Approach
pub mod ApproachDelay
pub mod ApproachPass
pub mod Upper
-- Both together.
pub mod Exists

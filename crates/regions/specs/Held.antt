-- How the struct `Region` holds a priced region, and the bounds within which no number overflows.
-- Assumes nothing.
use Rattle.std.specs.Prelude.{◌≡◌, ℕ, suc, ◌+◌, ◌≤◌, ◌<◌, ◌^◌, length, get_or, take}
use Rattle.semantics.specs.Region.{PricedRegion, WellFormed, top}
pub use Rattle.semantics.specs.Graph.CornerGraph.{highest}
pub use Rattle.table.specs.Fields.{most_timers}
pub use Rattle.table.specs.Held.{pad}
pub use Rattle.arrays.specs.Arrays.{most_corners}
use Rattle.regions.specs.declared.Region.{Region}

-- The struct that holds a priced region.
unfoldable pub pack : PricedRegion → Region
pack r = record {
  timers = length r.whole;
  top = top r;
  whole = pad most_timers r.whole;
  group = pad most_timers r.group;
  prices = pad most_corners r.prices;
}

-- The priced region that a struct holds.
unfoldable pub view : Region → PricedRegion
view s = record {
  whole = take s.timers s.whole;
  group = take s.timers s.group;
  prices = take (suc s.top) s.prices;
}

-- The struct holds a region of one to three timers, and 0 in the entries that are not used.
pub record Valid (s : Region) : Type 0 where
  pub few : s.timers ≤ most_timers
  pub held : s ≡ pack (view s)
  pub well_formed : WellFormed (view s)

-- Every price can grow by the amount within 32 bits.
abbrev pub PriceRoom : ℕ → PricedRegion → Type 0
PriceRoom amount r = (i : ℕ) → get_or r.prices i 0 + amount < 2 ^ 32

-- Every whole part can grow by one minute within a byte.
abbrev pub WholeRoom : PricedRegion → Type 0
WholeRoom r = (i : ℕ) → get_or r.whole i 0 < 255

-- Every place in half minutes is below 255.
abbrev pub HalfRoom : PricedRegion → Type 0
HalfRoom r = (i : ℕ) → get_or r.whole i 0 < 127

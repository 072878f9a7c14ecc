-- How many cells there are, and the bounds within which no number of a cell overflows.
-- Assumes nothing.
use Rattle.std.specs.Prelude.{◌≡◌, List, ℕ, ◌≤◌, get_or}
use Rattle.semantics.specs.NodeCount.{factor}
pub use Rattle.table.specs.Fields.{most_ceiling}

-- No ceiling of the array is above the greatest.
abbrev pub CeilingsFew : List ℕ → Type 0
CeilingsFew ceilings = (i : ℕ) → get_or ceilings i 0 ≤ most_ceiling

-- The factor of a ceiling, from 1 to 16.
pub record IsFactor (ceiling r : ℕ) : Type 0 where
  pub is : r ≡ factor ceiling
  pub low : 1 ≤ r
  pub high : r ≤ 16

-- There are at most so many cells; and no three bytes for whole parts give a greater cell number.
abbrev pub most_cells : ℕ
most_cells = 4096

abbrev pub most_cell_number : ℕ
most_cell_number = 69615

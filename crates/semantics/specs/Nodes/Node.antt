-- The nodes of the search and their numbers, which are those below E.
-- Assumes nothing.
use Rattle.std.specs.Prelude.{◌≡◌, ℕ, ◌+◌, ◌*◌, ◌/◌, ◌%◌, ◌<◌, length, get_or}
use mathlib.Core.List.{List, [], ◌∷◌, Memᴰ}
use Rattle.semantics.specs.Automaton.{Automaton, timers}
use Rattle.semantics.specs.Region.{PricedRegion}
use Rattle.semantics.specs.NodeCount.{factor, cell_count, corner_count}
use Rattle.semantics.specs.Corners.Corner.{Corner, corner_of, corners, corner_number, corner_at}

-- A node: a mode, the timers' whole parts, which are the cell, and a corner of the cell.
pub record Node : Type 0 where
  pub mode : ℕ
  pub whole : List ℕ
  pub corner : Corner

-- Corner j of a region in a mode.
abbrev pub node_of : ℕ → PricedRegion → ℕ → Node
node_of mode r j = record { mode = mode; whole = r.whole; corner = corner_of r j }

-- The cells: as many whole parts as ceilings, none above its ceiling.
pub record IsCell (ceilings whole : List ℕ) : Type 0 where
  pub sized : length whole ≡ length ceilings
  pub below : (t : ℕ) → t < length ceilings → get_or whole t 0 < factor (get_or ceilings t 0)

-- The nodes of an automaton.
pub record IsNode (a : Automaton) (x : Node) : Type 0 where
  pub mode : x.mode < length a.modes
  pub cell : IsCell a.ceilings x.whole
  pub corner : Memᴰ x.corner (corners (timers a))

-- The number of a cell is its whole parts in mixed radix, the first timer's the lowest digit; and the cell with a number.
abbrev pub cell_number : List ℕ → List ℕ → ℕ
cell_number [] whole = 0
cell_number (ceiling ∷ ceilings) [] = 0
cell_number (ceiling ∷ ceilings) (w ∷ whole) = cell_number ceilings whole * factor ceiling + w

abbrev pub cell_at : List ℕ → ℕ → List ℕ
cell_at [] i = []
cell_at (ceiling ∷ ceilings) i = i % factor ceiling ∷ cell_at ceilings (i / factor ceiling)

-- Nodes are numbered by mode, then cell, then corner; and the node with a number.
unfoldable pub node_number : List ℕ → Node → ℕ
node_number ceilings x =
    (x.mode * cell_count ceilings + cell_number ceilings x.whole) * corner_count (length ceilings) 1 + corner_number (length ceilings) x.corner

unfoldable pub node_at : List ℕ → ℕ → Node
node_at ceilings i = record {
  mode = i / corner_count (length ceilings) 1 / cell_count ceilings;
  whole = cell_at ceilings (i / corner_count (length ceilings) 1 % cell_count ceilings);
  corner = corner_at (length ceilings) (i % corner_count (length ceilings) 1);
}

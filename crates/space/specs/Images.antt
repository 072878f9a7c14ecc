-- To which node resets lead from a corner, and the array in which what they do is kept for each reset byte.
-- Assumes nothing.
use Rattle.std.specs.Prelude.{◌≡◌, ◌⊎◌, List, ℕ, ◌≤◌, ◌<◌, length, get_or, take}
use Rattle.semantics.specs.Region.{reset_all}
use Rattle.semantics.specs.Nodes.Node.{node_of, node_number}
use Rattle.semantics.specs.Corners.Edges.{reset_all_corner}
use Rattle.table.specs.Meaning.{named_timers}
use Rattle.table.specs.Held.{automaton_of, fields_of, move_fields_at}
use Rattle.regions.specs.declared.nodes.NodeRegion.{NodeRegion}
use Rattle.regions.specs.Held.{view}
use Rattle.space.specs.declared.Space.{Space}
use Rattle.space.specs.Space.{Setting, IsCorner}

-- Place r is the last of the places 0 to `last` of the list at which stands at most the bound.
pub record LastAtMost (l : List ℕ) (last bound r : ℕ) : Type 0 where
  pub within : r ≤ last
  pub at_most : get_or l r 0 ≤ bound
  pub above : (i : ℕ) → r < i → i ≤ last → bound < get_or l i 0

-- The number that this node has in mode 0, for resets of the timers xs: for a search, that is their image.
unfoldable pub image_of : Space → NodeRegion → List ℕ → ℕ
image_of s z xs =
    node_number (take z.region.timers s.ceilings)
    (node_of 0 (reset_all xs (view z.region)) (reset_all_corner xs (view z.region) z.index))

abbrev pub NodeImage : Space → NodeRegion → List ℕ → ℕ → Type 0
NodeImage s z xs v = v ≡ image_of s z xs

-- The byte is that of a move of the table.
pub record ImageReady (s : Space) (z : NodeRegion) (byte : ℕ) : Type 0 where
  pub table : List ℕ
  pub rules : List ℕ
  pub setting : Setting table rules s
  pub corner : IsCorner table z
  pub move : ℕ
  pub there : move < length (automaton_of table).moves
  pub byte-is : byte ≡ (move_fields_at (fields_of table) move).resets

-- For each byte below 8 the image, if it was found: P says which value is the image of resets of some timers.
abbrev pub no_image : ℕ
no_image = 4294967295

pub record Images (P : List ℕ → ℕ → Type 0) (found : List ℕ) : Type 0 where
  pub sized : length found ≡ 8
  pub each : (k : ℕ) → k < 8 → (get_or found k 0 ≡ no_image) ⊎ P (named_timers k) (get_or found k 0)

pub record ImageDone (P : List ℕ → ℕ → Type 0) (byte : ℕ) (found : List ℕ) (r : ℕ) : Type 0 where
  pub is : P (named_timers byte) r
  pub images : Images P found

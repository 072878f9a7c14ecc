-- What stands in the code's tables of the corners of a cell. A table is kept in rows: four entries of a byte to a row, the first one in the lowest
-- byte.
-- Assumes nothing.
use Rattle.std.specs.Prelude.{◌≡◌, cond, List, [], ◌∷◌, ℕ, suc, ◌+◌, ◌-◌, ◌*◌, ◌/◌, ◌%◌, ◌^◌, ◌<◌, min, ltb, get_or, take}
use Rattle.semantics.specs.Corners.Corner.{Corner, corner_number, corner_at}
use Rattle.table.specs.Fields.{most_timers}

-- No cell has more corners: those of three timers.
abbrev pub most_cell_corners : ℕ
most_cell_corners = 75

-- An entry of a row.
abbrev pub entry_of : ℕ → ℕ → ℕ
entry_of row column = row / 2 ^ (8 * column) % 256

-- r is the row with this number of the table whose entry at each place is f of the place.
pub record IsRow (f : ℕ → ℕ) (row r : ℕ) : Type 0 where
  pub entry : (column : ℕ) → column < 4 → entry_of r column ≡ f (4 * row + column)

-- The places of the first corners: sixteen for one timer, sixteen for two, and for three sixteen for each group of timer 2. Among the sixteen the
-- groups of timers 0 and 1 are digits of base 4.
abbrev pub timers_at : ℕ → ℕ
timers_at place = min most_timers (suc (place / 16))

abbrev pub groups_at : ℕ → List ℕ
groups_at place = take (timers_at place) (place / 4 % 4 ∷ place % 4 ∷ (place / 16 - 2) ∷ [])

-- The number of the first corner of the region with these groups; how many corners there are, if there is no such region.
abbrev pub first_at : ℕ → ℕ
first_at place = corner_number (timers_at place) (record { group = groups_at place; index = 0 })

-- A corner in a byte: its index and the groups of timers 0, 1 and 2, as digits of base 4.
abbrev pub byte_of : Corner → ℕ
byte_of c = 64 * c.index + 16 * get_or c.group 0 0 + 4 * get_or c.group 1 0 + get_or c.group 2 0

-- The places of the corners: one row for one timer, four for two, and the others for three.
abbrev pub corner_byte : ℕ → ℕ
corner_byte place =
    cond (ltb place 4) (byte_of (corner_at 1 place)) (cond (ltb place 20) (byte_of (corner_at 2 (place - 4))) (byte_of (corner_at 3 (place - 20))))

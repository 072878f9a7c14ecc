-- What the array helpers do, where the definitions have no name for it.
-- Assumes nothing.
use Rattle.std.specs.Prelude.{List, ◌++◌, map, ℕ, suc, take, drop}
use Rattle.table.specs.Fields.{most_timers}

-- "one to four corner prices with three timers".
abbrev pub most_corners : ℕ
most_corners = suc most_timers

-- f at each of the first n entries.
abbrev pub map_to : (ℕ → ℕ) → ℕ → List ℕ → List ℕ
map_to f n l = map f (take n l) ++ drop n l

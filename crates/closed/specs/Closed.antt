-- Rows of condition bytes with no condition < or >.
-- Assumes nothing.
use Rattle.std.specs.Prelude.{Bool, true, ◌&&◌, List, ℕ, zero, suc, take, drop}
use Rattle.semantics.specs.Closed.{all_closed}
use Rattle.table.specs.Meaning.{conditions_from}

-- So many records of so many bytes each, where the bytes begin with the six conditions of the first record.
abbrev pub rows_closed : ℕ → ℕ → List ℕ → Bool
rows_closed stride zero t = true
rows_closed stride (suc n) t = all_closed (conditions_from 0 (take 6 t)) && rows_closed stride n (drop stride t)

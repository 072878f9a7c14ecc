-- Closed tables: document 02, N5, "Many studios use only ≤, = and ≥". Such a condition holds of whatever its timer comes near to.
-- Assumes nothing.
use Rattle.std.specs.Prelude.{Bool, true, false, ◌&&◌, List, [], ◌∷◌}
use Rattle.semantics.specs.Condition.{Comparison, less, at_most, equal, at_least, greater, Condition}
use Rattle.semantics.specs.Automaton.{Mode, Move, Automaton}

-- Neither < nor >.
abbrev pub is_closed : Comparison → Bool
is_closed less = false
is_closed at_most = true
is_closed equal = true
is_closed at_least = true
is_closed greater = false

abbrev pub all_closed : List Condition → Bool
all_closed [] = true
all_closed (c ∷ cs) = is_closed c.comparison && all_closed cs

abbrev pub modes_closed : List Mode → Bool
modes_closed [] = true
modes_closed (m ∷ ms) = all_closed m.conditions && modes_closed ms

abbrev pub moves_closed : List Move → Bool
moves_closed [] = true
moves_closed (e ∷ es) = all_closed e.conditions && moves_closed es

-- No condition anywhere is < or >, of modes and moves that no run comes to neither.
unfoldable pub closed_table : Automaton → Bool
closed_table a = modes_closed a.modes && moves_closed a.moves

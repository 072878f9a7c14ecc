-- Where conditions stand when they are written: document 02, N3, "an only condition on a timer goes to the first of its two places, and two keep
-- their order".
-- Assumes nothing.
use Rattle.std.specs.Prelude.{ℕ, ◌+◌, cond, List, [], ◌∷◌, map, eqb, get_or}
use Rattle.table.specs.Fields.{ModeFields, MoveFields, Fields}

-- Of the two conditions on a timer, 0 for none: the one in the first place, and the one in the further place.
abbrev pub first_of : ℕ → ℕ → ℕ
first_of a b = cond (eqb a 0) b a

abbrev pub further_of : ℕ → ℕ → ℕ
further_of a b = cond (eqb a 0) 0 b

-- The conditions on timer x stand at x and at x + 3.
abbrev pub on_timer : (ℕ → ℕ → ℕ) → List ℕ → ℕ → ℕ
on_timer choice cs x = choice (get_or cs x 0) (get_or cs (x + 3) 0)

abbrev pub compact : List ℕ → List ℕ
compact cs = on_timer first_of cs 0 ∷ on_timer first_of cs 1 ∷ on_timer first_of cs 2 ∷ on_timer further_of cs 0 ∷ on_timer further_of cs 1 ∷ on_timer further_of cs 2 ∷ []

abbrev pub compact_mode : ModeFields → ModeFields
compact_mode m = record { rate = m.rate; conditions = compact m.conditions }

abbrev pub compact_move : MoveFields → MoveFields
compact_move e = record { source = e.source; target = e.target; price = e.price; conditions = compact e.conditions; resets = e.resets }

abbrev pub compacted : Fields → Fields
compacted f = record { goal = f.goal; ceilings = f.ceilings; modes = map compact_mode f.modes; moves = map compact_move f.moves }

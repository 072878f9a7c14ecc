-- The form that says given fields, with 0 wherever it says nothing.
-- Assumes nothing.
use Rattle.std.specs.Prelude.{ℕ, ◌/◌, ◌%◌, List, [], ◌∷◌, ◌++◌, map, length}
use Rattle.table.specs.Fields.{ModeFields, MoveFields, Fields}
use Rattle.table.specs.Held.{pad, flat}

-- "A condition byte is 16 × code + value".
abbrev pub place : ℕ → List ℕ
place byte = byte / 16 ∷ byte % 16 ∷ []

abbrev pub places : List ℕ → List ℕ
places bytes = flat (map place bytes)

abbrev pub mode_form : ModeFields → List ℕ
mode_form m = m.rate % 256 ∷ m.rate / 256 ∷ places m.conditions

abbrev pub move_form : MoveFields → List ℕ
move_form e = e.source ∷ e.target ∷ e.price % 256 ∷ e.price / 256 ∷ (places e.conditions ++ e.resets ∷ 0 ∷ [])

unfoldable pub formed : Fields → List ℕ
formed f =
    length f.modes ∷ length f.ceilings ∷ length f.moves ∷ f.goal
    ∷ (pad 4 f.ceilings ++ (pad 224 (flat (map mode_form f.modes)) ++ pad 1152 (flat (map move_form f.moves))))

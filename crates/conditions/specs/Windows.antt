-- The windows of timers in half minutes: of each the lowest place at which its conditions hold, and the first above it at which they do not.
-- Assumes nothing.
use Rattle.std.specs.Prelude.{Bool, cond, ◌&&◌, List, [], ◌∷◌, ℕ, ◌+◌, ◌*◌, max, min, eqb, leb, ltb, get_or, set}
use Rattle.semantics.specs.Condition.{Condition, at_most}
use Rattle.semantics.specs.Regions.Windows.{free, lowest, above}

-- The window of timer x by conditions: the highest of their lowest places, and the lowest of those that are first above them.
abbrev pub low_of : List Condition → ℕ → ℕ
low_of [] x = 0
low_of (c ∷ cs) x = cond (eqb c.timer x) (max (lowest c.comparison c.value) (low_of cs x)) (low_of cs x)

abbrev pub high_of : List Condition → ℕ → ℕ
high_of [] x = free
high_of (c ∷ cs) x = cond (eqb c.timer x) (min (above c.comparison c.value) (high_of cs x)) (high_of cs x)

-- "A move is passed over at the first of its conditions, or the target's, that fails": the two windows of a timer in one, the target's, from low to
-- high, joined to the move's own. A timer that the move resets stands at 0 in the target: where 0 is in the target's window the move's own stays
-- as it is, and where it is not no place is left. Any other timer stands in the target where it stood: what both windows have is left.
abbrev pub joined_low : Bool → ℕ → ℕ → ℕ
joined_low reset own low = cond reset own (max own low)

abbrev pub joined_high : Bool → ℕ → ℕ → ℕ → ℕ
joined_high reset own low high = cond reset (cond (leb low 0 && ltb 0 high) own 0) (min own high)

-- "Allowed if the new region meets the mode's conditions and every ceiling": the window of a mode's conditions ends above the ceiling at the latest.
-- A timer that is not there stands at 0, and 0 is read for its ceiling.
abbrev pub capped : ℕ → ℕ → ℕ
capped high ceiling = min high (above at_most ceiling)

-- The six bytes of a row.
abbrev pub row_of : List Condition → List ℕ
row_of cs = low_of cs 0 ∷ high_of cs 0 ∷ low_of cs 1 ∷ high_of cs 1 ∷ low_of cs 2 ∷ high_of cs 2 ∷ []

-- The row with one condition more.
abbrev pub narrow : List ℕ → Condition → List ℕ
narrow row c =
    set (set row (2 * c.timer) (max (get_or row (2 * c.timer) 0) (lowest c.comparison c.value))) (2 * c.timer + 1)
    (min (get_or row (2 * c.timer + 1) 0) (above c.comparison c.value))

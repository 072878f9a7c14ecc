-- E: document 01, "The corners of a cell number 3, 13 or 75 for one, two or three timers. E = m × the product of all (ceiling + 1) × that
-- number."
-- Assumes nothing.
use Rattle.std.specs.Prelude.{◌≡◌, refl, List, [], ◌∷◌, ℕ, zero, suc, ◌+◌, ◌*◌, length}
use Rattle.semantics.specs.Automaton.{Automaton, timers}

-- "(ceiling + 1)": the whole parts of a timer are the numbers below it.
abbrev pub factor : ℕ → ℕ
factor ceiling = ceiling + 1

-- "the product of all (ceiling + 1)": how many cells there are. A cell is fixed by the timers' whole parts.
abbrev pub cell_count : List ℕ → ℕ
cell_count [] = 1
cell_count (ceiling ∷ ceilings) = cell_count ceilings * factor ceiling

-- In how many ways n timers come, one after another, into a weak order of b blocks: each joins one of the b blocks or stands alone in one of
-- the b + 1 gaps. A corner is a weak order of n + 1 marks, the timers by their fractions and one for the index: among b groups of timers the
-- index has b places where r0 is the lowest of them, and b + 1 where r0 is empty. So a cell of n timers has corner_count n 1 corners
-- (Corners.Count proves that this is the length of the list of all of them).
abbrev pub corner_count : ℕ → ℕ → ℕ
corner_count zero b = 1
corner_count (suc n) b = b * corner_count n b + suc b * corner_count n (suc b)

-- "3, 13 or 75 for one, two or three timers".
pub corner-counts : (corner_count 1 1 ≡ 3) × (corner_count 2 1 ≡ 13) × (corner_count 3 1 ≡ 75)
corner-counts = (refl, refl, refl)

-- E, the number of nodes of the search: "m × the product of all (ceiling + 1) × that number".
unfoldable pub node_count : Automaton → ℕ
node_count a = length a.modes * cell_count a.ceilings * corner_count (timers a) 1

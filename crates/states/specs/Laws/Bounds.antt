-- The bounds of a table's numbers: its timers, and how many states a mode has.
-- Assumes nothing.
use Rattle.std.specs.Prelude.{List, [], ◌∷◌, ℕ, ◌*◌, ◌≤◌, length, get_or}
use Rattle.std.proofs.Common.{mul-le-mul, arith}
use Rattle.semantics.specs.Automaton.{timers}
use Rattle.semantics.specs.NodeCount.{factor, cell_count}
use Rattle.table.specs.Held.{automaton_of, IsTable}
use Rattle.table.specs.Theorems.Access.{get_or-all, counts, timer-count}
use Rattle.corners.specs.Cells.{most_cells}
use Rattle.states.specs.declared.States.{States}
use Rattle.states.specs.States.{most_timers, IsStates}

-- There is a cell; and with ceilings up to 15, each timer has at most 16 values.
pub count-some : (cs : List ℕ) → 1 ≤ cell_count cs
count-some [] = omega arith
count-some (c ∷ cs) = let one : 1 ≤ factor c = omega arith in mul-le-mul (count-some cs) one

one_more : (cells most c : ℕ) → cells ≤ most → c ≤ 15 → cells * factor c ≤ most * 16
one_more cells most c h k = let few : factor c ≤ 16 = omega arith in mul-le-mul h few

count-few : (cs : List ℕ) → length cs ≤ most_timers → ((i : ℕ) → get_or cs i 0 ≤ 15) → cell_count cs ≤ most_cells
count-few [] h few = omega arith
count-few (a ∷ []) h few = omega (arith, few 0)
count-few (a ∷ b ∷ []) h few = let two = one_more (factor b) 16 a (omega (arith, few 1)) (few 0) in omega arith
count-few (a ∷ b ∷ c ∷ []) h few =
    let two = one_more (factor c) 16 b (omega (arith, few 2)) (few 1) in
    let three = one_more (factor c * factor b) 256 a two (few 0) in omega arith
count-few (a ∷ b ∷ c ∷ d ∷ cs) h few = absurd (omega arith)

module _ (t : List ℕ) (h : IsTable t) where
  pub timers-some : 1 ≤ timers (automaton_of t)
  timers-some = omega (arith, counts t h, timer-count t h)

  pub timers-few : timers (automaton_of t) ≤ most_timers
  timers-few = omega (arith, counts t h, timer-count t h)

  pub ceiling-few : (i : ℕ) → get_or (automaton_of t).ceilings i 0 ≤ 15
  ceiling-few i = get_or-all (λ c. c ≤ 15) (automaton_of t).ceilings (λ c m. (h.range.ceilings-range c m).1) (omega arith) i

  pub cells-few : cell_count (automaton_of t).ceilings ≤ most_cells
  cells-few = count-few (automaton_of t).ceilings timers-few ceiling-few

  -- As the struct has it.
  pub cells-between : (s : States) → IsStates t s → (1 ≤ s.cells) × (s.cells ≤ most_cells)
  cells-between s is = omega (arith, is.cells_are, count-some (automaton_of t).ceilings, cells-few)

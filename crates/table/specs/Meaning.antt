-- Which automaton the fields of a table stand for.
-- Assumes nothing.
use Rattle.std.specs.Prelude.{ℕ, suc, ◌-◌, ◌/◌, ◌%◌, ◌^◌, Bool, cond, List, [], ◌∷◌, map, eqb, get_or}
use Rattle.semantics.specs.Condition.{Comparison, less, at_most, equal, at_least, greater, Condition}
use Rattle.semantics.specs.Automaton.{Mode, Move, Automaton}
use Rattle.table.specs.Fields.{ModeFields, MoveFields, Fields}

-- "codes 1 to 5 are <, ≤, =, ≥, >".
abbrev pub comparisons : List Comparison
comparisons = less ∷ at_most ∷ equal ∷ at_least ∷ greater ∷ []

abbrev pub comparison_of : ℕ → Comparison
comparison_of code = get_or comparisons (code - 1) greater

-- "A condition byte is 16 × code + value".
abbrev pub condition_of : ℕ → ℕ → Condition
condition_of timer byte = record { timer = timer; comparison = comparison_of (byte / 16); value = byte % 16 }

-- "Bits 1, 2, 3: a condition on timer 0, 1, 2. Bits 4, 5, 6: a further condition on timer 0, 1, 2." The bytes stand at the places
-- from `place` on, and 0 is none.
abbrev pub conditions_from : ℕ → List ℕ → List Condition
conditions_from place [] = []
conditions_from place (byte ∷ bytes) = cond (eqb byte 0) (conditions_from (suc place) bytes) (condition_of (place % 3) byte ∷ conditions_from (suc place) bytes)

-- Bit i of a byte stands.
abbrev pub stands : ℕ → ℕ → Bool
stands b i = eqb (b / 2 ^ i % 2) 1

-- Those of the timers whose bit stands in the byte.
abbrev pub named : ℕ → List ℕ → List ℕ
named byte [] = []
named byte (timer ∷ timers) = cond (stands byte timer) (timer ∷ named byte timers) (named byte timers)

-- "resets, a byte whose bits 0 to 2 name timers".
abbrev pub named_timers : ℕ → List ℕ
named_timers byte = named byte (0 ∷ 1 ∷ 2 ∷ [])

abbrev pub mode_of : ModeFields → Mode
mode_of f = record { rate = f.rate; conditions = conditions_from 0 f.conditions }

abbrev pub move_of : MoveFields → Move
move_of f = record {
  source = f.source;
  target = f.target;
  price = f.price;
  conditions = conditions_from 0 f.conditions;
  resets = named_timers f.resets;
}

abbrev pub automaton : Fields → Automaton
automaton f = record { ceilings = f.ceilings; modes = map mode_of f.modes; moves = map move_of f.moves; goal = f.goal }

-- The automaton that a table stands for (a priced timed automaton: source document 001, section 2), free of bytes and widths.
-- Assumes nothing.
use Rattle.std.specs.Prelude.{ℕ, Bool, List, [], length, get_or}
use Rattle.semantics.specs.Condition.{Condition, hold_at_zero}

-- A mode (a location): what a minute in it is charged, and its conditions (its invariant).
pub record Mode : Type 0 where
  pub rate : ℕ
  pub conditions : List Condition

-- A move (an edge): its from mode, its to mode, its price, its conditions (its guard) and the timers that it resets.
pub record Move : Type 0 where
  pub source : ℕ
  pub target : ℕ
  pub price : ℕ
  pub conditions : List Condition
  pub resets : List ℕ

-- Modes and moves go by their places in the lists, timers by the places of their ceilings. The start is mode 0.
pub record Automaton : Type 0 where
  pub ceilings : List ℕ
  pub modes : List Mode
  pub moves : List Move
  pub goal : ℕ

-- The number of timers: each has a ceiling.
abbrev pub timers : Automaton → ℕ
timers a = length a.ceilings

-- The mode of a number; past the last one a mode with no rate and no condition.
abbrev pub mode_at : Automaton → ℕ → Mode
mode_at a l = get_or a.modes l (record { rate = 0; conditions = [] })

-- The move of a number; past the last one a move that does nothing.
abbrev pub move_at : Automaton → ℕ → Move
move_at a e = get_or a.moves e (record { source = 0; target = 0; price = 0; conditions = []; resets = [] })

-- Mode 0's conditions hold at zero, where every run begins.
abbrev pub start_holds : Automaton → Bool
start_holds a = hold_at_zero (mode_at a 0).conditions

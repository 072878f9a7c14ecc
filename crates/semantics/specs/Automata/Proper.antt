-- What the theorems ask of an automaton, and what holds of that of every table.
-- Assumes nothing.
use Rattle.std.specs.Prelude.{ℕ, ◌≤◌, ◌<◌, ◌≡◌, true, length}
use mathlib.Core.List.{List, Memᴰ}
use Rattle.semantics.specs.Condition.{Condition}
use Rattle.semantics.specs.Automaton.{Mode, Move, Automaton, timers, start_holds}

-- Every condition is on one of n timers.
abbrev pub OnTimers : ℕ → List Condition → Type 0
OnTimers n cs = (c : Condition) → Memᴰ c cs → c.timer < n

-- There are timers and modes and at most 64 moves, modes and timers that are named are there, and mode 0's conditions hold at zero.
pub record Proper (a : Automaton) : Type 0 where
  pub some-timer : 1 ≤ timers a
  pub goal-there : a.goal < length a.modes
  pub few-moves : length a.moves ≤ 64
  pub invariants-on : (m : Mode) → Memᴰ m a.modes → OnTimers (timers a) m.conditions
  pub guards-on : (e : Move) → Memᴰ e a.moves → OnTimers (timers a) e.conditions
  pub resets-on : (e : Move) → Memᴰ e a.moves → (x : ℕ) → Memᴰ x e.resets → x < timers a
  pub source-there : (e : Move) → Memᴰ e a.moves → e.source < length a.modes
  pub target-there : (e : Move) → Memᴰ e a.moves → e.target < length a.modes
  pub start-holds : start_holds a ≡ true

-- How the structs hold the states of a table in whole minutes.
-- Assumes nothing.
use Rattle.std.specs.Prelude.{◌≡◌, cond, List, [], ◌∷◌, ℕ, ◌≤◌, ◌<◌, length, get_or}
use Rattle.semantics.specs.Automaton.{Automaton, timers}
use Rattle.semantics.specs.Run.{State, move, after}
use Rattle.semantics.specs.NodeCount.{cell_count}
use Rattle.semantics.specs.Timetable.{state_count}
use Rattle.semantics.specs.Graph.MinuteGraph.{state_number, state_at}
pub use Rattle.table.specs.Fields.{most_timers}
use Rattle.table.specs.Held.{pad, automaton_of, IsTable}
use Rattle.table.specs.Meaning.{stands}
pub use Rattle.regions.specs.Nodes.{most_nodes}
use Rattle.states.specs.declared.States.{States}
use Rattle.states.specs.declared.State.{State as StateHeld}

-- The struct has the number of states, that of a mode's, the number of timers, and the ceilings.
pub record IsStates (t : List ℕ) (s : States) : Type 0 where
  pub count-is : s.count ≡ state_count (automaton_of t)
  pub cells_are : s.cells ≡ cell_count (automaton_of t).ceilings
  pub timers-are : s.timers ≡ timers (automaton_of t)
  pub ceilings-are : s.ceilings ≡ pad most_timers (automaton_of t).ceilings

-- It is that of a table.
pub record StatesReady (s : States) : Type 0 where
  pub table : List ℕ
  pub is-table : IsTable table
  pub is-states : IsStates table s

-- The array has the values of a state's timers, and 0 behind the last one.
pub record Shows (a : Automaton) (s : State) (values : List ℕ) : Type 0 where
  pub three : length values ≡ 3
  pub there : (x : ℕ) → x < timers a → get_or values x 0 ≡ s.value x
  pub spare : (x : ℕ) → timers a ≤ x → get_or values x 0 ≡ 0

-- The struct is of the state.
pub record StandsAt (a : Automaton) (s : State) (r : StateHeld) : Type 0 where
  pub mode-is : r.mode ≡ s.mode
  pub shows : Shows a s r.values

-- Of the state with this number, for every table whose states these are.
abbrev pub IsState : States → ℕ → StateHeld → Type 0
IsState s v r = (t : List ℕ) → IsTable t → IsStates t s → StandsAt (automaton_of t) (state_at (automaton_of t) v) r

-- An array of three values after the resets of a byte.
abbrev pub zeroed_in : ℕ → List ℕ → List ℕ
zeroed_in byte values =
    cond (stands byte 0) 0 (get_or values 0 0) ∷ cond (stands byte 1) 0 (get_or values 1 0) ∷ cond (stands byte 2) 0 (get_or values 2 0) ∷ []

-- The states are those of the table, which has move e, and the values are those of a state.
pub record LeadReady (t : List ℕ) (s : States) (values : List ℕ) (e : ℕ) : Type 0 where
  pub is-table : IsTable t
  pub is-states : IsStates t s
  pub there : e < length (automaton_of t).moves
  pub shown : (x : State) × Shows (automaton_of t) x values

-- It is the number of the state that the move leaves, from whatever state with these values.
abbrev pub LeadDone : List ℕ → List ℕ → ℕ → ℕ → Type 0
LeadDone t values e r = (s : State) → Shows (automaton_of t) s values → r ≡ state_number (automaton_of t) (after (automaton_of t) (move e) s)

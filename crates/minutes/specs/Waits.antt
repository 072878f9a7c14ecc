-- What the functions that wait in a state, and test whether it stays in its mode, ask and do.
-- Assumes nothing.
use Rattle.std.specs.Prelude.{◌≡◌, Bool, true, ◌↔◌, List, ℕ, ◌+◌, ◌*◌, ◌<◌, length, get_or}
use Rattle.semantics.specs.Automaton.{mode_at}
use Rattle.semantics.specs.Run.{State, wait, after}
use Rattle.semantics.specs.Timetable.{stays}
use Rattle.semantics.specs.Graph.Path.{infinity}
use Rattle.table.specs.Held.{automaton_of, IsTable}
use Rattle.rules.specs.Rules.{IsRules}
use Rattle.states.specs.declared.State.{State as StateHeld}
use Rattle.minutes.specs.declared.waits.Source.{Source}
use Rattle.states.specs.States.{StandsAt}

-- Values have room in half minutes.
abbrev pub Room : List ℕ → Type 0
Room values = (i : ℕ) → get_or values i 0 < 127

-- The struct is of a state, and neither a value nor the charge goes too far.
pub record WaitReady (t : List ℕ) (x : Source) (d : ℕ) : Type 0 where
  pub standing : (z : State) × StandsAt (automaton_of t) z x.at
  pub mode-there : x.at.mode < length (automaton_of t).modes
  pub values-few : (i : ℕ) → get_or x.at.values i 0 + d < 127
  pub sum : d * (mode_at (automaton_of t) x.at.mode).rate + x.charge < infinity

-- The struct is of the state after the wait, which is charged too.
pub record WaitDone (t : List ℕ) (x : Source) (d : ℕ) (r : Source) : Type 0 where
  pub stands : (s : State) → StandsAt (automaton_of t) s x.at → StandsAt (automaton_of t) (after (automaton_of t) (wait d) s) r.at
  pub room : Room r.at.values
  pub charge-is : r.charge ≡ d * (mode_at (automaton_of t) x.at.mode).rate + x.charge
  pub pairs-are : r.pairs ≡ x.pairs

-- The rules are those of a table that has the mode.
pub record OfRules (t rs : List ℕ) (x : StateHeld) : Type 0 where
  pub is-table : IsTable t
  pub is-rules : IsRules t rs
  pub mode-there : x.mode < length (automaton_of t).modes

pub record StaysReady (rs : List ℕ) (x : StateHeld) : Type 0 where
  pub table : List ℕ
  pub rules : OfRules table rs x
  pub standing : (z : State) × StandsAt (automaton_of table) z x
  pub room : Room x.values

-- For every such table, and state of which the struct is.
abbrev pub StaysDone : List ℕ → StateHeld → Bool → Type 0
StaysDone rs x r =
    (t : List ℕ) → OfRules t rs x → (s : State) → StandsAt (automaton_of t) s x → (r ≡ true) ↔ (stays (automaton_of t) s.mode s.value ≡ true)

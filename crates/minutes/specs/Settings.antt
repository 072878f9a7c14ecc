-- A table whose states are searched.
-- Assumes nothing.
use Rattle.std.specs.Prelude.{List, ℕ, ◌≤◌}
use Rattle.table.specs.Held.{IsTable}
use Rattle.rules.specs.Rules.{IsRules}
use Rattle.states.specs.declared.States.{States}
use Rattle.states.specs.States.{IsStates}

-- There are at most 4,096 states, so that no charge overflows.
abbrev pub most_states : ℕ
most_states = 4096

pub record Setting (t rs : List ℕ) (s : States) : Type 0 where
  pub is-table : IsTable t
  pub is-rules : IsRules t rs
  pub is-states : IsStates t s
  pub few : s.count ≤ most_states

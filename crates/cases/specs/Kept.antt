-- What the operations on a region and the steps of a chain keep, so that the next can be made.
-- Assumes nothing.
use Rattle.std.specs.Prelude.{◌≡◌, List, ℕ, ◌+◌, ◌*◌, ◌<◌, length}
use Rattle.semantics.specs.Automaton.{timers}
use Rattle.table.specs.Held.{automaton_of, IsTable}
use Rattle.regions.specs.declared.Region.{Region}
use Rattle.regions.specs.Held.{view, Valid, PriceRoom}

-- The most that an operation adds to a price.
abbrev pub most_amount : ℕ
most_amount = 65535

-- The struct t comes after s by an operation: it holds a region of as many timers, and no price rose by more than the most.
pub record Kept (s t : Region) : Type 0 where
  pub valid : Valid t
  pub timers : t.timers ≡ s.timers
  pub room : (more : ℕ) → PriceRoom (most_amount + more) (view s) → PriceRoom more (view t)

-- A mode of the table and a region of its timers, from which n steps can be made, of at most two operations each.
pub record OnChain (t : List ℕ) (n mode : ℕ) (s : Region) : Type 0 where
  pub is-table : IsTable t
  pub there : mode < length (automaton_of t).modes
  pub valid : Valid s
  pub timers : s.timers ≡ timers (automaton_of t)
  pub room : PriceRoom (2 * most_amount * n) (view s)

-- A step leads from one to the other.
abbrev pub Leads : List ℕ → ℕ → Region → ℕ → Region → Type 0
Leads t mode s mode' s' = (n : ℕ) → OnChain t (n + 1) mode s → OnChain t n mode' s'

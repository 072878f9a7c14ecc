-- Demands 2 and 3 of a call that plans a table: what its answer says of all chains and of all runs.
-- Assumes nothing.
use Rattle.std.specs.Prelude.{◌≡◌, ◌↔◌, List, ℕ, ◌*◌, ◌≤◌, take}
use Rattle.semantics.specs.Automaton.{Automaton}
use Rattle.semantics.specs.NodeCount.{node_count}
use Rattle.semantics.specs.Chain.{moves_of}
use Rattle.semantics.specs.Order.{cost, Best}
use Rattle.semantics.specs.Answer.{Comes, NoChain}
use Rattle.semantics.specs.Demand.{AtLeast, Approached, NoRun}
use Rattle.table.specs.Fields.{Fields}
use Rattle.table.specs.Meaning.{automaton}
use Rattle.reader.specs.Read.{accepted, read}
use Rattle.search.specs.Outcome.{most_nodes}
use Rattle.route.specs.Answers.{Answer}
use Rattle.route.specs.Answers.{Refused, NoRoute, Route}

-- The bytes are those of a table that planning does not refuse before the search, with so many words lent, and a is its automaton.
pub record IsSearched (bytes : List ℕ) (lent : ℕ) (a : Automaton) : Type 0 where
  pub fields : Fields
  pub is-accepted : read bytes ≡ accepted fields
  pub is-automaton : a ≡ automaton fields
  pub few : node_count a ≤ most_nodes
  pub room : 2 * node_count a ≤ lent

-- The answer r to the bytes, with so many words lent, where rs are the route bytes at exit.
pub record KeepsDemand (bytes : List ℕ) (lent : ℕ) (rs : List ℕ) (r : Answer) : Type 0 where
  -- A charge is reported only for such a table.
  pub reported : (C n : ℕ) → r ≡ Route C n → (a : Automaton) × IsSearched bytes lent a
  -- Demand 2, "the least corner price over all chains into the goal mode, the route that 01 picks among them": the first n route bytes are
  -- the best of all chains into the goal, whatever their length, C is their charge and n their number.
  pub best : (C n : ℕ) → r ≡ Route C n → (a : Automaton) → IsSearched bytes lent a → Best (Comes a a.goal) (cost C n) (take n rs)
  -- "or no route": exactly when no chain comes into the goal.
  pub no-chain : (a : Automaton) → IsSearched bytes lent a → (r ≡ NoRoute) ↔ NoChain a a.goal
  -- Demand 3, "Where it reports a charge C, every run from the start, timers at zero, into the goal, whatever its moves and whatever its
  -- delays, in fractions of a minute of any denominator, is charged C or more".
  pub at_least : (C n : ℕ) → r ≡ Route C n → (a : Automaton) → IsSearched bytes lent a → AtLeast a a.goal C
  -- "for every whole m from 1 some such run, making exactly the route's moves in their order, is charged less than C + 1/m".
  pub approached : (C n : ℕ) → r ≡ Route C n → (a : Automaton) → IsSearched bytes lent a → Approached a a.goal (moves_of (take n rs)) C
  -- "A table that planning does not refuse before the search gets from it the answer no route exactly when no run from the start comes into
  -- the goal."
  pub no-route : (a : Automaton) → IsSearched bytes lent a → (r ≡ NoRoute) ↔ NoRun a a.goal
  -- "10 needs a route to exist."
  pub ten : r ≡ Refused 10 → (a : Automaton) × IsSearched bytes lent a × (NoRun a a.goal → ⊥)

-- What the answer of the call says of all timetables, of all runs, and of planning the same bytes.
-- Assumes nothing.
use Rattle.std.specs.Prelude.{◌≡◌, true, ◌↔◌, List, ℕ, ◌*◌, ◌-◌, ◌<◌, length, take}
use Rattle.semantics.specs.Automaton.{Automaton}
use Rattle.semantics.specs.Order.{cost, Best}
use Rattle.semantics.specs.Answer.{no_route, route, answer}
use Rattle.semantics.specs.Demand.{AtLeast, NoRun}
use Rattle.semantics.specs.Closed.{closed_table}
use Rattle.semantics.specs.Timetable.{Timetable as IsTimetable, state_count}
use Rattle.route.specs.Answers.{Route}
use Rattle.route.specs.Plan.{planned}
use Rattle.route.specs.Promise.{IsSearched}
use Rattle.timetable.specs.Answers.{Answer}
use Rattle.timetable.specs.Answers.{Refused, NoRoute, Timetable}

-- The bytes are those of a table that the call does not refuse before the search, with so many words lent, and a is its automaton.
pub record IsTimetabled (bytes : List ℕ) (lent : ℕ) (a : Automaton) : Type 0 where
  pub searched : IsSearched bytes lent a
  pub closed : closed_table a ≡ true

-- The answer r to the bytes, where ws are the words at entry and rs the route bytes at exit.
pub record KeepsTimetable (bytes ws rs : List ℕ) (r : Answer) : Type 0 where
  -- A timetable is reported only for such a table.
  pub reported : (C n : ℕ) → r ≡ Timetable C n → (a : Automaton) × IsTimetabled bytes (length ws) a
  -- "pairs of bytes, whole minutes waited and then a move, which from the start form a run into the goal", charged C.
  pub run : (C n : ℕ) → r ≡ Timetable C n → (a : Automaton) → IsTimetabled bytes (length ws) a → IsTimetable a a.goal (take (2 * n) rs) C
  -- "Among timetables charged exactly C, take the fewest pairs, then the first in byte order", whatever their number; and none is charged less.
  pub best :
      (C n : ℕ) → r ≡ Timetable C n → (a : Automaton) → IsTimetabled bytes (length ws) a
      → Best (IsTimetable a a.goal) (cost C (2 * n)) (take (2 * n) rs)
  -- C is the charge of the route that document 01 picks,
  pub charged : (C n : ℕ) → r ≡ Timetable C n → (a : Automaton) → IsTimetabled bytes (length ws) a → (ks : List ℕ) × (answer a a.goal ≡ route C ks)
  -- and so what planning reports for the same bytes and words, with whatever route bytes.
  pub as-planned : (C n : ℕ) → r ≡ Timetable C n → (bs : List ℕ) (D k : ℕ) → (planned bytes ws bs).answer ≡ Route D k → D ≡ C
  -- No run, in fractions of a minute of any denominator, is charged less.
  pub at_least : (C n : ℕ) → r ≡ Timetable C n → (a : Automaton) → IsTimetabled bytes (length ws) a → AtLeast a a.goal C
  -- "such a timetable exists whenever a route does", and only then: no route is answered exactly if document 01 has none, so exactly if no run comes
  -- into the goal.
  pub no-route : (a : Automaton) → IsTimetabled bytes (length ws) a → (r ≡ NoRoute) ↔ (answer a a.goal ≡ no_route)
  pub no_run : (a : Automaton) → IsTimetabled bytes (length ws) a → (r ≡ NoRoute) ↔ NoRun a a.goal
  pub exists :
      (a : Automaton) → IsTimetabled bytes (length ws) a
      → ((C : ℕ) × (js : List ℕ) × IsTimetable a a.goal js C) ↔ ((C : ℕ) × (ks : List ℕ) × (answer a a.goal ≡ route C ks))
  -- 10 needs a timetable to exist, and is said only where there are fewer route bytes than two for each state but one.
  pub ten :
      r ≡ Refused 10
      → (a : Automaton) × IsTimetabled bytes (length ws) a × (NoRun a a.goal → ⊥) × (length rs < 2 * (state_count a - 1))

-- What the walk that finds the route asks and does, and so its private functions.
-- Assumes nothing.
use Rattle.std.specs.Prelude.{◌≡◌, Bool, cond, ◌⊎◌, List, ◌++◌, ℕ, ◌+◌, ◌*◌, ◌-◌, ◌/◌, ◌%◌, ◌^◌, ◌≤◌, ◌<◌, eqb, length, drop, set}
use Rattle.semantics.specs.NodeCount.{node_count}
use Rattle.semantics.specs.Order.{Cost}
use Rattle.semantics.specs.Graph.Path.{reached, infinity, charge_at, steps_at, table}
use Rattle.semantics.specs.Graph.Distance.{distance}
use Rattle.semantics.specs.Answer.{route, answer}
use Rattle.semantics.specs.Answers.Walk.{NearCosts}
use Rattle.table.specs.Held.{automaton_of}
use Rattle.space.specs.declared.Space.{Space}
use Rattle.steps.specs.declared.Stand.{Stand}
use Rattle.steps.specs.declared.Next.{Next}
use Rattle.space.specs.Space.{Setting, graph_of, start_of}
use Rattle.steps.specs.Steps.{Marked}

-- The words are those of a search of the table for its goal, which is reached, and there are route bytes for its steps.
pub record WalkReady (t rs : List ℕ) (s : Space) (ws bs : List ℕ) : Type 0 where
  pub setting : Setting t rs s
  pub words : 2 * s.nodes ≤ length ws
  pub near : NearCosts (graph_of t (automaton_of t).goal) (start_of t) (table ws)
  pub best : Cost
  pub is-best : distance (graph_of t (automaton_of t).goal) (start_of t) ≡ reached best
  pub room : best.steps ≤ length bs

-- The words behind those of the nodes are untouched.
pub record RestKept (t ws ws' : List ℕ) : Type 0 where
  pub rest : drop (2 * node_count (automaton_of t)) ws' ≡ drop (2 * node_count (automaton_of t)) ws
  pub kept : length ws' ≡ length ws

-- The route of the definitions stands in the first route bytes, and the others are as they were.
pub record WalkDone (t ws bs ws' bs' : List ℕ) : Type 0 where
  pub best : Cost
  pub is-best : distance (graph_of t (automaton_of t).goal) (start_of t) ≡ reached best
  pub bytes : List ℕ
  pub is-route : answer (automaton_of t) (automaton_of t).goal ≡ route best.charge bytes
  pub counted : length bytes ≡ best.steps
  pub stored : bs' ≡ bytes ++ drop best.steps bs
  pub words : RestKept t ws ws'

-- Whether a corner is in the set; and the lowest that is, or the last of four.
abbrev pub is_marked : ℕ → ℕ → Bool
is_marked set j = eqb (set / 2 ^ j % 2) 1

unfoldable pub lowest : ℕ → ℕ
lowest set = cond (is_marked set 0) 0 (cond (is_marked set 1) 1 (cond (is_marked set 2) 2 3))

-- A second word that points back to a place, with its first node and its marked corners. No number of steps is as high.
abbrev pub back_pointer : ℕ
back_pointer = 0x8000_0000

abbrev pub pointer : ℕ → ℕ → ℕ
pointer first set = back_pointer + set * 65536 + first

-- It stands at the lowest marked corner of the place behind.
abbrev pub pointing : ℕ → ℕ → ℕ
pointing first set = first + lowest set

-- There are words for the marked corners.
abbrev pub PruneRoom : ℕ → ℕ → List ℕ → Type 0
PruneRoom first set ws = (j : ℕ) → Marked set j → 2 * (first + j) < length ws

-- The marked corners below n became unreached, and no other node.
pub record PrunedBelow (n first set : ℕ) (ws ws' : List ℕ) : Type 0 where
  pub gone : (j : ℕ) → j < n → Marked set j → charge_at ws' (first + j) ≡ infinity
  pub only :
      (v : ℕ) → (charge_at ws' v ≡ charge_at ws v) ⊎ ((charge_at ws' v ≡ infinity) × ((j : ℕ) × Marked set j × (v ≡ first + j)))
  pub steps : (v : ℕ) → steps_at ws' v ≡ steps_at ws v
  pub rest : (m : ℕ) → ((j : ℕ) → Marked set j → first + j < m) → drop (2 * m) ws' ≡ drop (2 * m) ws
  pub kept : length ws' ≡ length ws

abbrev pub Pruned : ℕ → ℕ → List ℕ → List ℕ → Type 0
Pruned first set ws ws' = PrunedBelow 4 first set ws ws'

pub record AdvanceReady (z : Stand) (r : Next) (ws : List ℕ) : Type 0 where
  pub there : 2 * pointing r.first r.set + 1 < length ws
  pub few : z.first < 65536
  pub sixteen : z.set < 16
  pub short : z.steps < 65536

pub record Advanced (z : Stand) (r : Next) (ws ws' : List ℕ) (z' : Stand) : Type 0 where
  pub words : ws' ≡ set ws (2 * pointing r.first r.set + 1) (pointer z.first z.set)
  pub stand : z' ≡ record { first = r.first; set = r.set; steps = z.steps + 1; byte = 0 }

pub record BacktrackReady (z : Stand) (ws : List ℕ) : Type 0 where
  pub there : 2 * pointing z.first z.set + 1 < length ws
  pub room : PruneRoom z.first z.set ws
  pub deep : 0 < z.steps

pub record Backtracked (z : Stand) (byte : ℕ) (ws ws' : List ℕ) (z' : Stand) : Type 0 where
  pub words : Pruned z.first z.set ws ws'
  pub first-is : z'.first ≡ steps_at ws (pointing z.first z.set) % 65536
  pub set_is : z'.set ≡ steps_at ws (pointing z.first z.set) / 65536 % 16
  pub steps-are : z'.steps ≡ z.steps - 1
  pub byte-is : z'.byte ≡ byte + 1

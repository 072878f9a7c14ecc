-- What the functions that relax the pairs of a state ask and do.
-- Assumes nothing.
use Rattle.std.specs.Prelude.{◌≡◌, true, List, ℕ, suc, ◌+◌, ◌*◌, ◌≤◌, ◌<◌}
use Rattle.semantics.specs.Automaton.{mode_at}
use Rattle.semantics.specs.Run.{State, wait, after}
use Rattle.semantics.specs.Timetable.{allowed}
use Rattle.semantics.specs.Graph.Path.{Edge, Graph, charge_at, steps_at}
use Rattle.semantics.specs.Graph.MinuteGraph.{state_at, minute_graph}
use Rattle.table.specs.Held.{automaton_of}
use Rattle.queue.specs.Queue.{lows}
use Rattle.search.specs.Exploring.{Rooted, InHand, Relaxes}
use Rattle.states.specs.declared.States.{States}
use Rattle.minutes.specs.declared.waits.Source.{Source}
use Rattle.states.specs.States.{StandsAt}
use Rattle.minutes.specs.declared.graph.MinuteGraph.{MinuteGraph}
use Rattle.minutes.specs.Waits.{Room}
pub use Rattle.minutes.specs.Settings.{Setting}

-- The graph of a table for a goal. Timetables begin at node 0.
abbrev pub graph_of : List ℕ → ℕ → Graph
graph_of t goal = minute_graph (automaton_of t) goal

abbrev pub rooted_of : List ℕ → ℕ → Rooted
rooted_of t goal = record { graph = graph_of t goal; start = 0 }

-- The state of node v.
abbrev pub state_of : List ℕ → ℕ → State
state_of t v = state_at (automaton_of t) v

-- Every edge; and those of the pairs that wait d minutes, by their labels.
abbrev pub AnyPair : Edge → Type 0
AnyPair e = Unit {0}

abbrev pub OfMinute : ℕ → Edge → Type 0
OfMinute d e = (64 * d ≤ e.label) × (e.label < 64 * suc d)

-- Node u is in hand; the struct is of its state and has its charge, and one pair more than its own.
pub record Standing (t : List ℕ) (s : States) (x : Source) (ws : List ℕ) (goal u : ℕ) : Type 0 where
  pub hand : InHand (rooted_of t goal) s.count u ws
  pub stands : StandsAt (automaton_of t) (state_of t u) x.at
  pub charge-is : x.charge ≡ charge_at (lows s.count ws) u
  pub pairs-are : x.pairs ≡ suc (steps_at (lows s.count ws) u)

-- Its edges arrive with fewer pairs than there are states.
abbrev pub Short : States → Source → Type 0
Short s x = x.pairs < s.count

pub record PairsReady (t : List ℕ) (s : States) (x : Source) (ws : List ℕ) : Type 0 where
  pub goal : ℕ
  pub node : ℕ
  pub standing : Standing t s x ws goal node

-- For every goal and node for which it was, its edges that fit are relaxed.
abbrev pub PairsDone : (Edge → Type 0) → List ℕ → States → Source → List ℕ → List ℕ → Type 0
PairsDone Fits t s x ws ws' = (goal u : ℕ) → Standing t s x ws goal u → Relaxes (rooted_of t goal) s.count u Fits ws ws'

-- No value goes beyond a byte.
pub record MinuteReady (t : List ℕ) (s : States) (x : Source) (d : ℕ) (ws : List ℕ) : Type 0 where
  pub pairs : PairsReady t s x ws
  pub short : Short s x
  pub few : d ≤ 15

-- Node u is in hand, and d minutes were waited there: the struct is of the state then, and what has been charged is the wait too.
pub record Waited (t : List ℕ) (s : States) (x : Source) (ws : List ℕ) (goal u d : ℕ) : Type 0 where
  pub hand : InHand (rooted_of t goal) s.count u ws
  pub allows : allowed (automaton_of t) (wait d) (state_of t u) ≡ true
  pub stands : StandsAt (automaton_of t) (after (automaton_of t) (wait d) (state_of t u)) x.at
  pub charge-is : x.charge ≡ d * (mode_at (automaton_of t) (state_of t u).mode).rate + charge_at (lows s.count ws) u
  pub pairs-are : x.pairs ≡ suc (steps_at (lows s.count ws) u)

pub record MovesReady (t : List ℕ) (s : States) (x : Source) (ws : List ℕ) : Type 0 where
  pub short : Short s x
  pub goal : ℕ
  pub node : ℕ
  pub minutes : ℕ
  pub room : Room x.at.values
  pub waited : Waited t s x ws goal node minutes

-- For every goal, node and wait for which it was, the edges of that wait are relaxed.
abbrev pub MovesDone : List ℕ → States → Source → List ℕ → List ℕ → Type 0
MovesDone t s x ws ws' =
    (goal u d : ℕ) → Waited t s x ws goal u d → Relaxes (rooted_of t goal) s.count u (OfMinute d) ws ws'

-- The same by the struct that has the table, its rules and its states.
abbrev pub PairsReadyIn : MinuteGraph → Source → List ℕ → Type 0
PairsReadyIn g = PairsReady g.table.now.bytes g.states

abbrev pub PairsDoneIn : (Edge → Type 0) → MinuteGraph → Source → List ℕ → List ℕ → Type 0
PairsDoneIn Fits g = PairsDone Fits g.table.now.bytes g.states

abbrev pub MinuteReadyIn : MinuteGraph → Source → ℕ → List ℕ → Type 0
MinuteReadyIn g = MinuteReady g.table.now.bytes g.states

abbrev pub MovesReadyIn : MinuteGraph → Source → List ℕ → Type 0
MovesReadyIn g = MovesReady g.table.now.bytes g.states

abbrev pub MovesDoneIn : MinuteGraph → Source → List ℕ → List ℕ → Type 0
MovesDoneIn g = MovesDone g.table.now.bytes g.states

-- What the functions that look for the next pair of a walk ask and do.
-- Assumes nothing.
use Rattle.std.specs.Prelude.{◌≡◌, Bool, true, ◌↔◌, List, ℕ, ◌+◌, ◌*◌, ◌/◌, ◌≤◌, ◌<◌, Option, MatchOption, length}
use Rattle.semantics.specs.Automaton.{mode_at}
use Rattle.semantics.specs.Run.{wait, after}
use Rattle.semantics.specs.Timetable.{allowed}
use Rattle.semantics.specs.Graph.Path.{Edge, Graph, Leaves, infinity, charge_at, steps_at}
use Rattle.table.specs.Fields.{most_price}
use Rattle.table.specs.Held.{automaton_of}
use Rattle.states.specs.declared.States.{States}
use Rattle.minutes.specs.declared.waits.Source.{Source}
use Rattle.states.specs.States.{StandsAt}
use Rattle.minutes.specs.Waits.{Room}
use Rattle.minutes.specs.Edges.{graph_of, state_of}
use Rattle.timetable.specs.declared.walk.Stand.{Stand}
use Rattle.timetable.specs.declared.walk.Step.{Step}
use Rattle.timetable.specs.declared.walk.Next.{Next}

-- The graph of a table for its own goal.
abbrev pub goal_graph : List ℕ → Graph
goal_graph t = graph_of t (automaton_of t).goal

-- There are words for the node.
abbrev pub TightRoom : ℕ → List ℕ → Type 0
TightRoom v ws = 2 * v + 1 < length ws

-- r tells whether the node has this charge and these pairs.
abbrev pub Tells : List ℕ → ℕ → ℕ → ℕ → Bool → Type 0
Tells ws v charge pairs r = (r ≡ true) ↔ ((charge_at ws v ≡ charge) × (steps_at ws v ≡ pairs))

-- By the words the end of edge e, which leaves v, is reached along it, with so many pairs.
abbrev pub Along : List ℕ → ℕ → ℕ → Edge → Type 0
Along ws v pairs e = (charge_at ws e.to ≡ e.weight + charge_at ws v) × (steps_at ws e.to ≡ pairs)

-- An edge of v with this label leads to w, which is reached along it.
pub record Tight (t ws : List ℕ) (v pairs label w : ℕ) : Type 0 where
  pub edge : Edge
  pub leaves : Leaves (goal_graph t) v edge
  pub labelled : edge.label ≡ label
  pub leads : edge.to ≡ w
  pub along : Along ws v pairs edge

-- No edge of v with a label from `low` on and below `high` is tight.
abbrev pub NoneTight : List ℕ → List ℕ → ℕ → ℕ → ℕ → ℕ → Type 0
NoneTight t ws v pairs low high =
    (e : Edge) → Leaves (goal_graph t) v e → low ≤ e.label → e.label < high → Along ws v pairs e → ⊥

-- Of these labels, this one is the first that has such an edge, and it leads to w.
pub record FirstTight (t ws : List ℕ) (v pairs low high label w : ℕ) : Type 0 where
  pub from : low ≤ label
  pub below : label < high
  pub tight : Tight t ws v pairs label w
  pub none_before : NoneTight t ws v pairs low label

-- What is known of the node v at which the walk stands: no sum with a wait and a price overflows.
pub record AtNode (s : States) (ws : List ℕ) (v : ℕ) : Type 0 where
  pub room : 2 * s.count ≤ length ws
  pub inside : v < s.count
  pub sum : 16 * most_price + charge_at ws v < infinity

-- d minutes were waited at v: the struct is of the state then, and what has been charged is the wait too.
pub record WaitedAt (t : List ℕ) (x : Source) (ws : List ℕ) (v d : ℕ) : Type 0 where
  pub few : d ≤ 15
  pub allows : allowed (automaton_of t) (wait d) (state_of t v) ≡ true
  pub stands : StandsAt (automaton_of t) (after (automaton_of t) (wait d) (state_of t v)) x.at
  pub room : Room x.at.values
  pub charge-is : x.charge ≡ d * (mode_at (automaton_of t) (state_of t v).mode).rate + charge_at ws v

pub record MoveReady (t : List ℕ) (s : States) (x : Source) (first : ℕ) (ws : List ℕ) : Type 0 where
  pub node : ℕ
  pub minutes : ℕ
  pub at-node : AtNode s ws node
  pub waited : WaitedAt t x ws node minutes
  pub few : first < 64

-- For every node and wait for which it was: the first of the labels of that wait, from the move `first` on.
pub record MoveFound (t : List ℕ) (s : States) (x : Source) (first : ℕ) (ws : List ℕ) (r : Step) : Type 0 where
  pub few : r.made < 64
  pub is-first :
      (v d : ℕ) → AtNode s ws v → WaitedAt t x ws v d
      → FirstTight t ws v x.pairs (64 * d + first) (64 * d + 64) (64 * d + r.made) r.node

abbrev pub NoMove : List ℕ → States → Source → ℕ → List ℕ → Type 0
NoMove t s x first ws =
    (v d : ℕ) → AtNode s ws v → WaitedAt t x ws v d → NoneTight t ws v x.pairs (64 * d + first) (64 * d + 64)

abbrev pub MoveDone : List ℕ → States → Source → ℕ → List ℕ → Option Step → Type 0
MoveDone t s x first ws r = MatchOption r (NoMove t s x first ws) (MoveFound t s x first ws)

-- The struct is of the state of v, with its charge.
pub record StandingAt (t : List ℕ) (x : Source) (ws : List ℕ) (v : ℕ) : Type 0 where
  pub stands : StandsAt (automaton_of t) (state_of t v) x.at
  pub charge-is : x.charge ≡ charge_at ws v

pub record AfterReady (t : List ℕ) (s : States) (x : Source) (label : ℕ) (ws : List ℕ) : Type 0 where
  pub node : ℕ
  pub at-node : AtNode s ws node
  pub standing : StandingAt t x ws node
  pub few : label < 1024

-- For every node for which it was: the first of the labels of the label's wait, from it on.
pub record AfterFound (t : List ℕ) (s : States) (x : Source) (label : ℕ) (ws : List ℕ) (r : Step) : Type 0 where
  pub few : r.made < 64
  pub is-first :
      (v : ℕ) → AtNode s ws v → StandingAt t x ws v
      → FirstTight t ws v x.pairs label (64 * (label / 64) + 64) (64 * (label / 64) + r.made) r.node

abbrev pub NoAfter : List ℕ → States → Source → ℕ → List ℕ → Type 0
NoAfter t s x label ws =
    (v : ℕ) → AtNode s ws v → StandingAt t x ws v → NoneTight t ws v x.pairs label (64 * (label / 64) + 64)

abbrev pub AfterDone : List ℕ → States → Source → ℕ → List ℕ → Option Step → Type 0
AfterDone t s x label ws r = MatchOption r (NoAfter t s x label ws) (AfterFound t s x label ws)

pub record NextReady (s : States) (z : Stand) (ws : List ℕ) : Type 0 where
  pub at-node : AtNode s ws z.node
  pub few : z.label ≤ 1024
  pub short : z.depth < 65535

-- No label is as high as this one.
abbrev pub no_pair : ℕ
no_pair = 65535

-- The first of all labels from the one at hand on.
abbrev pub NextFound : List ℕ → Stand → List ℕ → Next → Type 0
NextFound t z ws r = FirstTight t ws z.node (z.depth + 1) z.label no_pair r.label r.node

abbrev pub NoNext : List ℕ → Stand → List ℕ → Type 0
NoNext t z ws = NoneTight t ws z.node (z.depth + 1) z.label no_pair

abbrev pub NextDone : List ℕ → Stand → List ℕ → Option Next → Type 0
NextDone t z ws r = MatchOption r (NoNext t z ws) (NextFound t z ws)

-- What the functions that relax the edges of linger and of delay ask and do.
-- Assumes nothing.
use Rattle.std.specs.Prelude.{◌≡◌, Bool, true, List, ℕ}
use Rattle.semantics.specs.Region.{no_zero, within, meets_all}
use Rattle.semantics.specs.Automaton.{mode_at}
use Rattle.semantics.specs.Graph.Path.{Edge}
use Rattle.semantics.specs.Graph.CornerGraph.{number_of}
use Rattle.semantics.specs.Bounds.Steps.{rate_at}
use Rattle.semantics.specs.Answers.Waiting.{delayed_to}
use Rattle.table.specs.Held.{automaton_of}
use Rattle.regions.specs.Held.{view}
use Rattle.space.specs.declared.Space.{Space}
use Rattle.space.specs.Space.{place_at}
use Rattle.search.specs.declared.edges.Source.{Source}
use Rattle.search.specs.Edges.{Short, EdgesReady, EdgesDone}

abbrev pub IsDelay : Edge → Type 0
IsDelay e = e.label ≡ 64

abbrev pub IsLinger : Edge → Type 0
IsLinger e = e.label ≡ 65

-- The node of a struct is in hand in the graph of a table; `empty` says whether its r0 is, and `rate` is its mode's.
pub record WaitReady (nodes : ℕ) (x : Source) (empty : Bool) (rate : ℕ) (ws : List ℕ) : Type 0 where
  pub table : List ℕ
  pub rules : List ℕ
  pub space : Space
  pub edges : EdgesReady table rules space x ws
  pub short : Short space x
  pub nodes-are : nodes ≡ space.nodes
  pub empty-is : empty ≡ no_zero (view x.at.region)
  pub rate-is : rate ≡ rate_at (automaton_of table) (place_at x.at)

-- For such a table, its edges that fit are relaxed.
abbrev pub WaitDone :
    (Edge → Type 0) → {nodes : ℕ} {x : Source} {empty : Bool} {rate : ℕ} {ws : List ℕ} → WaitReady nodes x empty rate ws → List ℕ → Type 0
WaitDone Fits {nodes} {x} {empty} {rate} {ws} r ws' = EdgesDone Fits r.table r.space x ws ws'

-- "Allowed if the new region meets the mode's conditions and every ceiling"; `to` is its corner 0.
pub record DelayReady (nodes : ℕ) (x : Source) (to : ℕ) (empty : Bool) (rate : ℕ) (ws : List ℕ) : Type 0 where
  pub wait : WaitReady nodes x empty rate ws
  pub conditions : meets_all (mode_at (automaton_of wait.table) x.at.mode).conditions (delayed_to (place_at x.at)).region ≡ true
  pub ceilings : within (automaton_of wait.table).ceilings (delayed_to (place_at x.at)).region ≡ true
  pub to_is : to ≡ number_of (automaton_of wait.table) (delayed_to (place_at x.at)) 0

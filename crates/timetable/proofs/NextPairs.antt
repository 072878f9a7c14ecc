-- The pairs of the node of a walk, looked at from a label on, minute after minute, for the first whose edge is tight.
-- Assumes nothing.
use mathlib.Core.Path.{◌≡◌, refl, ap, ◌∙◌}
use mathlib.Core.List.{List}
use Prim.Native.Nat.{ℕ, ◌+◌, ◌*◌, ◌-◌, ◌/◌, ◌%◌, ◌≤◌, ◌<◌}
use native.Mathlib.Decide.{dec_lt}
use native.Mathlib.Omega.{arith}
use lib.ListN.{get_or}
use Rattle.semantics.specs.Graph.Path.{Edge, Leaves, charge_at}
use Rattle.table.specs.Held.{automaton_of}
use Rattle.table.specs.Theorems.Access.{get_or-pad}
use Rattle.states.specs.declared.States.{States}
use Rattle.states.specs.declared.State.{State}
use Rattle.minutes.specs.declared.waits.Source.{Source}
use Rattle.states.specs.States.{most_timers, IsState, StandsAt}
use Rattle.minutes.specs.Edges.{Setting, state_of}
use Rattle.states.specs.Laws.Bounds.{timers-some, ceiling-few}
use Rattle.timetable.specs.declared.walk.Step.{Step}
use Rattle.timetable.specs.Steps.{goal_graph, NoneTight, FirstTight, AtNode, StandingAt, AfterFound, NoAfter, no_pair}
use Rattle.timetable.proofs.AfterWaits.{label-parts, edge-waits}

-- The labels from `low` on and below `label`: no edge of theirs is tight, at any node of which the struct is.
pub record NoneBelow (t : List ℕ) (s : States) (x : Source) (ws : List ℕ) (low label : ℕ) : Type 0 where
  pub above : low ≤ label
  pub few : label ≤ 1024
  pub silent : (v : ℕ) → AtNode s ws v → StandingAt t x ws v → NoneTight t ws v x.pairs low label

module _ {t rs : List ℕ} {s : States} (set : Setting t rs s) where
  ceiling-is : get_or s.ceilings 0 0 ≡ get_or (automaton_of t).ceilings 0 0
  ceiling-is = ap (λ (l : List ℕ). get_or l 0 0) set.is-states.ceilings-are ∙ get_or-pad most_timers (automaton_of t).ceilings 0

  pub ceiling-first : get_or s.ceilings 0 0 ≤ 15
  ceiling-first = omega (arith, ceiling-is, ceiling-few t set.is-table 0)

  module _ (v : ℕ) {at : State} (is : IsState s v at) where
    pub node-stands : StandsAt (automaton_of t) (state_of t v) at
    node-stands = is t set.is-table set.is-states

    first-is : get_or at.values 0 0 ≡ (state_of t v).value 0
    first-is = node-stands.shows.there 0 (omega (arith, timers-some t set.is-table))

    pub node-standing : {ws : List ℕ} (pairs : ℕ) → StandingAt t (record { at = at; charge = charge_at ws v; pairs = pairs }) ws v
    node-standing pairs = record { stands = node-stands; charge-is = refl }

    -- No wait of an edge goes beyond it.
    edge-within : (y : Edge) → Leaves (goal_graph t) v y → get_or at.values 0 0 + y.label / 64 ≤ get_or s.ceilings 0 0
    edge-within y l =
        let b = (edge-waits t set.is-table v y l).1 0 (omega (arith, timers-some t set.is-table)) in
        omega (arith, b, first-is, ceiling-is)

    -- Nothing is tight up to the longest wait.
    pub next-none :
        {ws : List ℕ} → AtNode s ws v → {low label : ℕ} (pairs : ℕ) → NoneBelow t s (record { at = at; charge = charge_at ws v; pairs = pairs }) ws low label
        → get_or s.ceilings 0 0 - get_or at.values 0 0 < label / 64 → NoneTight t ws v pairs low no_pair
    next-none {ws} n {low} {label} pairs h past y l above below a =
        h.silent v n (node-standing pairs) y l above
        (omega (arith, edge-within y l, label-parts label, label-parts y.label, past)) a

module _ {t : List ℕ} {s : States} {x : Source} {ws : List ℕ} where
  -- No label was looked at yet.
  pub none-begins : {label : ℕ} → label ≤ 1024 → NoneBelow t s x ws label label
  none-begins few = record { above = omega arith; few = few; silent = λ v n k y l low high a. omega arith }

  -- The labels of one more wait were.
  module _ {low label : ℕ} (h : NoneBelow t s x ws low label) (few : label < 1024) where
    -- Those before the one at hand, and those from it on.
    silent-to :
        {to : ℕ} (v : ℕ) → AtNode s ws v → StandingAt t x ws v → NoneTight t ws v x.pairs label to → NoneTight t ws v x.pairs low to
    silent-to v n k later y l above below a = at (dec_lt y.label label)
      where
        at : Dec (y.label < label) → ⊥
        at (yes b) = h.silent v n k y l above b a
        at (no b) = later y l (omega arith) below a

    -- The wait's, which begins at this label.
    module _ (wait : ℕ) (begins : wait + label % 64 ≡ label) where
      whole : 64 * (label / 64) ≡ wait
      whole = omega (arith, label-parts label, begins)

      pub none-later : NoAfter t s x label ws → NoneBelow t s x ws low (wait + 64)
      none-later none = record {
        above = omega (arith, h.above, label-parts label, begins);
        few = omega (arith, label-parts label, begins);
        silent = λ v n k. silent-to v n k (rw whole at (none v n k));
      }

      pub next-found :
          {r : Step} → AfterFound t s x label ws r → {v : ℕ} → AtNode s ws v → StandingAt t x ws v
          → FirstTight t ws v x.pairs low no_pair (wait + r.made) r.node
      next-found {r} done {v} n k =
          let first = rw whole at (done.is-first v n k) in
          record {
            from = omega (arith, h.above, first.from);
            below = omega (arith, done.few, begins);
            tight = first.tight;
            none_before = silent-to v n k first.none_before;
          }

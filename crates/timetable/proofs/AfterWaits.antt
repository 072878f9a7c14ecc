-- Waiting at the node of a walk: the state then, if its mode may be stayed in, and no edge of that wait if not.
-- Assumes nothing.
use mathlib.Core.Path.{◌≡◌, sym, ap, ◌∙◌}
use mathlib.Core.Bool.{Bool, true, false, true≢false}
use mathlib.Core.List.{List}
use Prim.Native.Nat.{ℕ, ◌+◌, ◌*◌, ◌/◌, ◌%◌, ◌≤◌, ◌<◌}
use native.Mathlib.Nat.{mod-lt, div-add-mod'}
use native.Mathlib.Decide.{dec_lt}
use native.Mathlib.Omega.{arith}
use lib.ListN.{get_or}
use Rattle.std.specs.Prelude.{Option, Some, None}
use Rattle.semantics.specs.Automaton.{timers}
use Rattle.semantics.specs.Run.{wait, after, Allowed}
use Rattle.semantics.specs.Timetable.{Pair, allowed}
use Rattle.semantics.specs.Graph.Path.{Edge, Leaves}
use Rattle.semantics.specs.Timetables.Allowed.{stays-true}
use Rattle.semantics.specs.Timetables.Edges.{pair-few, pair-label, edge_of}
use Rattle.table.specs.Held.{automaton_of, IsTable}
use Rattle.table.specs.Theorems.Access.{table-proper}
use Rattle.states.specs.declared.States.{States}
use Rattle.minutes.specs.declared.waits.Source.{Source}
use Rattle.minutes.specs.Waits.{WaitReady, WaitDone, OfRules, StaysReady, StaysDone}
use Rattle.minutes.specs.Edges.{Setting, state_of}
use Rattle.states.specs.Laws.Bounds.{ceiling-few}
use Rattle.states.specs.Laws.Shows.{value-below}
use Rattle.timetable.specs.declared.walk.Step.{Step}
use Rattle.timetable.specs.Steps.{goal_graph, AtNode, WaitedAt, StandingAt, MoveReady, MoveDone, AfterReady, NoAfter, AfterDone}
use Rattle.timetable.proofs.Tightness.{node-mode, wait-most}

-- A label by its minutes and its move.
pub label-parts : (label : ℕ) → (64 * (label / 64) + label % 64 ≡ label) × (label % 64 < 64)
label-parts label = (omega (arith, div-add-mod' label 64), mod-lt label {m = 64} (omega arith))

minutes-few : {label : ℕ} → label < 1024 → label / 64 ≤ 15
minutes-few {label} few = omega (arith, label-parts label)

-- The wait of an edge's label is allowed.
pub edge-waits :
    (t : List ℕ) → IsTable t → (v : ℕ) (y : Edge) → Leaves (goal_graph t) v y → Allowed (automaton_of t) 1 (wait (y.label / 64)) (state_of t v)
edge-waits t table v y l =
    let o = edge_of (automaton_of t) (table-proper t table) (automaton_of t).goal v y l in
    let few = pair-few (automaton_of t) (table-proper t table) o.pair (state_of t v) o.allowed in
    let same = ap (λ (z : Edge). z.label / 64) o.is ∙ ap (λ (p : Pair). p.minutes) (pair-label o.pair few) in
    rw same o.allowed.waits

module _ {t rs : List ℕ} {s : States} (set : Setting t rs s) {ws : List ℕ} {x : Source} {v : ℕ} (n : AtNode s ws v) (k : StandingAt t x ws v) where
  -- No timer is above 15.
  value-few : (i : ℕ) → get_or x.at.values i 0 ≤ 15
  value-few i = at (dec_lt i (timers (automaton_of t)))
    where
      at : Dec (i < timers (automaton_of t)) → get_or x.at.values i 0 ≤ 15
      at (yes h) =
          omega (arith, k.stands.shows.there i h, value-below (automaton_of t) v i h, ceiling-few t set.is-table i)
      at (no h) = omega (arith, k.stands.shows.spare i (omega arith))

  pub wait-ready : (d : ℕ) → d ≤ 15 → WaitReady t x d
  wait-ready d few = record {
    standing = (state_of t v, k.stands);
    mode-there = omega (arith, k.stands.mode-is, node-mode set n);
    values-few = λ i. omega (arith, value-few i);
    sum = rw (k.stands.mode-is, k.charge-is) (omega (arith, wait-most set n d few, n.sum));
  }

  -- The minutes were waited.
  module _ {d : ℕ} {later : Source} (done : WaitDone t x d later) where
    later-rules : OfRules t rs later.at
    later-rules = record {
      is-table = set.is-table;
      is-rules = set.is-rules;
      mode-there = omega (arith, (done.stands (state_of t v) k.stands).mode-is, node-mode set n);
    }

    pub later-ready : StaysReady rs later.at
    later-ready = record { table = t; rules = later-rules; standing = (_, done.stands (state_of t v) k.stands); room = done.room }

    module _ {b : Bool} (tested : StaysDone rs later.at b) where
      pub waited-at : d ≤ 15 → b ≡ true → WaitedAt t later ws v d
      unfolding allowed
      waited-at few is = record {
        few = few;
        allows = (tested t later-rules (after (automaton_of t) (wait d) (state_of t v)) (done.stands (state_of t v) k.stands)).0 is;
        stands = done.stands (state_of t v) k.stands;
        room = done.room;
        charge-is = rw (← k.stands.mode-is, ← k.charge-is) done.charge-is;
      }

      no-wait : b ≡ false → Allowed (automaton_of t) 1 (wait d) (state_of t v) → ⊥
      no-wait is waits =
          let s = after (automaton_of t) (wait d) (state_of t v) in
          let stayed = (stays-true (automaton_of t) s.mode s.value).1 waits in
          true≢false (sym ((tested t later-rules s (done.stands (state_of t v) k.stands)).1 stayed) ∙ is)

      -- If the mode may not be stayed in, no edge has such a wait.
      pub no_edge : b ≡ false → (y : Edge) → Leaves (goal_graph t) v y → y.label / 64 ≡ d → ⊥
      no_edge is y l same = no-wait is (rw same at (edge-waits t set.is-table v y l))

module _ {t rs : List ℕ} {s : States} (set : Setting t rs s) {ws : List ℕ} {x : Source} {label : ℕ} where
  pub after-wait-ready : AfterReady t s x label ws → WaitReady t x (label / 64)
  after-wait-ready h = wait-ready set h.at-node h.standing (label / 64) (minutes-few h.few)

  module _ {later : Source} (done : WaitDone t x (label / 64) later) {b : Bool} (tested : StaysDone rs later.at b) (few : label < 1024) where
    pub after-move-ready : b ≡ true → AfterReady t s x label ws → MoveReady t s later (label % 64) ws
    after-move-ready is h = record {
      node = h.node;
      minutes = label / 64;
      at-node = h.at-node;
      waited = waited-at set h.at-node h.standing done tested (minutes-few few) is;
      few = (label-parts label).1;
    }

    pub after_none : b ≡ false → NoAfter t s x label ws
    after_none is v n k y l low high a = no_edge set n k done tested is y l (omega (arith, label-parts label, label-parts y.label))

-- The first move after the wait, or none.
pub after-move :
    {t rs : List ℕ} {s : States} → Setting t rs s → (ws : List ℕ) {x later : Source} {label : ℕ} → WaitDone t x (label / 64) later → {b : Bool} → StaysDone rs later.at b
    → label < 1024 → b ≡ true → (r : Option Step) → MoveDone t s later (label % 64) ws r → AfterDone t s x label ws r
after-move set ws {label = label} done tested few is None moved = λ v n k.
    rw ((label-parts label).0, done.pairs-are) at (moved v (label / 64) n (waited-at set n k done tested (minutes-few few) is))
after-move set ws {label = label} done tested few is (Some m) moved = record {
  few = moved.few;
  is-first = λ v n k.
      rw ((label-parts label).0, done.pairs-are) at (moved.is-first v (label / 64) n (waited-at set n k done tested (minutes-few few) is));
}

-- A walk begins at the start, may ask for its next pair wherever it stands, and ends in the goal with the timetable written.
-- Assumes nothing.
use mathlib.Core.Path.{◌≡◌, refl, sym, ap, subst, subst₂, ◌∙◌}
use mathlib.Core.List.{List, [], ◌++◌}
use Prim.Native.Nat.{ℕ, zero, suc, ◌+◌, ◌*◌, ◌/◌, ◌≤◌, ◌<◌}
use native.Mathlib.Nat.{le_trans, mul-le-mul_right}
use native.Mathlib.Omega.{arith}
use borrow.Author.Tests.{eqb-true, eq-eqb}
use lib.ListN.{length, get_or, take, drop, take-append-drop}
use Rattle.semantics.specs.Automata.Proper.{Proper}
use Rattle.semantics.specs.Automaton.{Automaton, timers}
use Rattle.semantics.specs.Order.{cost}
use Rattle.semantics.specs.NodeCount.{corner_count, cell_count, node_count}
use Rattle.semantics.specs.Timetable.{state_count}
use Rattle.semantics.specs.Graph.Path.{Edge, Leaves, Target, WeightsWithin, reached, infinity, charge_at, steps_at, table}
use Rattle.semantics.specs.Graph.MinuteGraph.{minute_graph}
use Rattle.semantics.specs.Paths.Least.{least-steps, least-charge}
use Rattle.semantics.specs.Paths.Words.{table-holds, reached-words}
use Rattle.semantics.proofs.Paths.Walk.{Ground, Tight, Walk, start-least, walk_begins, walk-entry, walk-few}
use Rattle.semantics.proofs.Paths.WalkOn.{walk-tried}
use Rattle.semantics.proofs.Paths.WalkEnd.{walk_ends}
use Rattle.semantics.proofs.Answers.Led.{grows-iff}
use Rattle.semantics.specs.Timetables.States.{some-state}
use Rattle.semantics.specs.Timetables.Edges.{label-bytes-length, pair-minutes, pair-few, edge_of, minute-closed, minute-weights, minute-labels}
use Rattle.semantics.proofs.Timetables.Best.{timetable-found}
use Rattle.table.specs.Fields.{most_price}
use Rattle.table.specs.Held.{automaton_of}
use Rattle.table.specs.Theorems.Access.{table-proper, amounts-within}
use Rattle.states.specs.declared.States.{States}
use Rattle.minutes.specs.Edges.{Setting}
use Rattle.states.specs.Laws.Bounds.{timers-some, timers-few, ceiling-few, cells-between}
use Rattle.timetable.specs.declared.walk.Stand.{Stand}
use Rattle.timetable.specs.Steps.{goal_graph, Along, NoneTight, NextReady, no_pair}
use Rattle.route.specs.Walk.{RestKept}
use Rattle.timetable.specs.Walk.{WalkReady, WalkDone}
use Rattle.timetable.proofs.PairBytes.{label_bytes}

-- Words that are the same say the same of a node.
pub table_same : (ws vs : List ℕ) (v : ℕ) → charge_at vs v ≡ charge_at ws v → steps_at vs v ≡ steps_at ws v → table vs v ≡ table ws v
unfolding table
table_same ws vs v p q = rw (p, q)

-- A cell has at least 3 corners.
corners-three : (x n : ℕ) → 1 ≤ n → n ≤ 3 → 3 * x ≤ x * corner_count n 1
corners-three x zero h k = absurd (omega arith)
corners-three x (suc zero) h k = omega arith
corners-three x (suc (suc zero)) h k = omega arith
corners-three x (suc (suc (suc zero))) h k = omega arith
corners-three x (suc (suc (suc (suc n)))) h k = absurd (omega arith)

module _ {t rs : List ℕ} {s : States} (setting : Setting t rs s) {ws₀ bs₀ : List ℕ} (w : WalkReady t ws₀ bs₀) where
  abbrev a : Automaton
  a = automaton_of t

  abbrev l : ℕ
  l = (automaton_of t).goal

  pub proper : Proper (automaton_of t)
  proper = table-proper t setting.is-table

  -- The nodes of the graph are the states of the struct.
  pub nodes-are : (goal_graph t).nodes ≡ s.count
  unfolding minute_graph
  nodes-are = sym setting.is-states.count-is

  -- Its edges have labels below 1,024, which no wait and no move goes beyond.
  pub label-few : (v : ℕ) (e : Edge) → Leaves (goal_graph t) v e → e.label < 1024
  label-few v e m =
      let o = edge_of a proper l v e m in
      let minutes = pair-minutes a proper o.pair _ o.allowed in
      omega (arith, ap (λ (x : Edge). x.label) o.is, minutes, ceiling-few t setting.is-table 0, pair-few a proper o.pair _ o.allowed)

  -- What the walk goes by.
  pub ground : Ground (goal_graph t) 0 no_pair w.best
  unfolding minute_graph
  ground = record {
    closed = minute-closed a proper l;
    start = some-state a proper;
    one-edge = minute-labels a proper l;
    labels = λ v e h m. omega (arith, label-few v e m);
    best = w.is-best;
  }

  -- The timetable has fewer pairs than there are states.
  pub pairs-few : w.best.steps < s.count
  pairs-few = omega (arith, nodes-are, least-steps (goal_graph t) ground.closed 0 ground.start w.best (start-least ground))

  -- No edge weighs more than 15 minutes and a move.
  pub weights : WeightsWithin (goal_graph t) (16 * most_price)
  weights v e h m =
      let c : get_or a.ceilings 0 0 + 1 ≤ 16 = omega (arith, ceiling-few t setting.is-table 0) in
      le_trans (minute-weights a proper l most_price (amounts-within t setting.is-table) v e h m) (mul-le-mul_right most_price c)

  -- So its charge is far below infinity.
  pub charge-few : 16 * most_price + w.best.charge < infinity
  charge-few =
      let most = least-charge (goal_graph t) ground.closed 0 ground.start w.best (start-least ground) (16 * most_price) weights in
      omega (arith, most, nodes-are, setting.few)

  -- The stack of the walk fits behind the words of the states.
  pub stack-fits : 2 * s.count + w.best.steps < 2 * node_count (automaton_of t)
  unfolding node_count state_count
  stack-fits =
      let ok = setting.is-table in
      let three = corners-three (length a.modes * cell_count a.ceilings) (timers a) (timers-some t ok) (timers-few t ok) in
      let count : s.count ≡ length a.modes * cell_count a.ceilings = setting.is-states.count-is in
      omega (arith, three, count, pairs-few)

  -- A mode has states.
  pub cells-some : (1 ≤ s.cells) × (s.cells < 65536)
  cells-some = omega (arith, cells-between t setting.is-table s setting.is-states)

  -- The targets are the nodes of the goal.
  pub target-goal : (v : ℕ) → Target (goal_graph t) v → v / s.cells ≡ (automaton_of t).goal
  unfolding minute_graph
  target-goal v e = ap (λ (n : ℕ). v / n) setting.is-states.cells_are ∙ eqb-true (v / cell_count a.ceilings) l e

  pub goal-target : (v : ℕ) → v / s.cells ≡ (automaton_of t).goal → Target (goal_graph t) v
  unfolding minute_graph
  goal-target v e = eq-eqb (v / cell_count a.ceilings) l (ap (λ (n : ℕ). v / n) (sym setting.is-states.cells_are) ∙ e)

  -- By the words an edge is tight exactly if its end is reached along it.
  module _ (ws : List ℕ) (v n c : ℕ) (entry : table ws v ≡ reached (cost c n)) (e : Edge) where
    charge-is : charge_at ws v ≡ c
    charge-is = (reached-words ws v (cost c n) entry).charge

    pub tight-along : Tight (table ws) n v e → Along ws v (n + 1) e
    tight-along x =
        let h = reached-words ws e.to (cost (c + e.weight) (suc n)) ((grows-iff (table ws) n e.weight v e.to c entry).0 x) in
        (omega (arith, h.charge, charge-is), omega (arith, h.steps))

    pub along-tight : e.weight + c < infinity → Along ws v (n + 1) e → Tight (table ws) n v e
    along-tight few x =
        (grows-iff (table ws) n e.weight v e.to c entry).1
        (table-holds ws e.to (cost (c + e.weight) (suc n)) (record {
          known = λ q. omega (arith, charge-is, x.0);
          charge = omega (arith, charge-is, x.0);
          steps = omega (arith, x.1);
        }))

-- The walk stands at z. It took the labels ks, whose bytes are the first of the route bytes bs; `at i` is the node to which i of them led, and those
-- before the one at hand are on the stack.
pub record Walking (s : States) {t ws₀ bs₀ : List ℕ} (w : WalkReady t ws₀ bs₀) (ws bs : List ℕ) (z : Stand) : Type 0 where
  pub labels : List ℕ
  pub at : ℕ → ℕ
  pub counted : length labels ≡ z.depth
  pub here : at z.depth ≡ z.node
  pub stack : (i : ℕ) → i < z.depth → get_or ws (2 * s.count + i) 0 ≡ at i
  pub walk : Walk (goal_graph t) 0 (table ws) labels at z.label
  pub few : z.label ≤ 1024
  pub bytes : take (2 * z.depth) bs ≡ label_bytes labels
  -- What it has left alone.
  pub rest : drop (2 * w.best.steps) bs ≡ drop (2 * w.best.steps) bs₀
  pub sized : length bs ≡ length bs₀
  pub words : RestKept t ws₀ ws

module _ {t rs : List ℕ} {s : States} (setting : Setting t rs s) {ws₀ bs₀ : List ℕ} (w : WalkReady t ws₀ bs₀) where
  -- It begins at the start.
  pub walking-begins : Walking s w ws₀ bs₀ (record { node = 0; depth = 0; label = 0 })
  walking-begins = record {
    labels = [];
    at = λ i. 0;
    counted = refl;
    here = refl;
    stack = λ i h. absurd (omega arith);
    walk = walk_begins (ground setting w) (table ws₀) w.near (λ i. 0) refl;
    few = omega arith;
    bytes = refl;
    rest = refl;
    sized = refl;
    words = record { rest = refl; kept = refl };
  }

  module _ {ws bs : List ℕ} {z : Stand} (k : Walking s w ws bs z) where
    -- It is no deeper than the timetable is long.
    pub within : z.depth ≤ w.best.steps
    within = omega (arith, k.counted, walk-few (ground setting w) k.walk)

    pub at_here : k.at (length k.labels) ≡ z.node
    at_here = ap k.at k.counted ∙ k.here

    -- The node at hand is reached in as many pairs, at no more than the charge of the timetable.
    pub entry_here : (z.node < s.count) × ((c : ℕ) × (c ≤ w.best.charge) × (table ws z.node ≡ reached (cost c z.depth)))
    entry_here =
        let o = walk-entry (ground setting w) k.walk (length k.labels) (omega arith) in (
          omega (arith, o.0, at_here, nodes-are setting w),
          (
            o.1.0,
            o.1.1,
            subst₂ (λ (v n : ℕ). table ws v ≡ reached (cost o.1.0 n)) at_here k.counted o.1.2,
          ),
        )

    pub charge-here : charge_at ws z.node ≡ entry_here.1.0
    charge-here = (reached-words ws z.node _ entry_here.1.2).charge

    -- There are words for all states, and for the stack.
    pub words-room : 2 * s.count + w.best.steps < length ws
    words-room = omega (arith, w.words, stack-fits setting w, k.words.kept)

    pub ready : NextReady s z ws
    ready = record {
      at-node = record {
        room = omega (arith, words-room);
        inside = entry_here.0;
        sum = omega (arith, charge-here, entry_here.1.1, charge-few setting w);
      };
      few = k.few;
      short = omega (arith, within, pairs-few setting w, setting.few);
    }

    -- In the goal the timetable is written.
    pub walking-ends : z.node / s.cells ≡ (automaton_of t).goal → WalkDone t ws₀ bs₀ ws bs
    walking-ends e =
        let goal : Target (goal_graph t) (k.at (length k.labels)) = subst (Target (goal_graph t)) (sym at_here) (goal-target setting w z.node e) in
        let o = walk_ends (ground setting w) k.walk goal in
        let all : 2 * z.depth ≡ 2 * w.best.steps = omega (arith, k.counted, o.1) in
        record {
          best = w.best;
          is-best = w.is-best;
          bytes = label_bytes k.labels;
          is-timetable =
              timetable-found (automaton_of t) (proper setting w) (automaton_of t).goal w.best.charge w.best.steps k.labels o.0;
          counted = omega (arith, label-bytes-length k.labels, o.1);
          stored =
              sym (take-append-drop (2 * z.depth) bs)
              ∙ (λ i. k.bytes i ++ (ap (λ (n : ℕ). drop n bs) all ∙ k.rest) i);
          words = k.words;
        }

    -- What is tight by the words is tight in the walk.
    pub tight-here : (e : Edge) → Tight (table ws) (length k.labels) (k.at (length k.labels)) e → Along ws z.node (z.depth + 1) e
    tight-here e x =
        tight-along setting w ws z.node z.depth entry_here.1.0 entry_here.1.2 e
        (subst₂ (λ (n v : ℕ). Tight (table ws) n v e) k.counted at_here x)

    pub here-tight :
        (e : Edge) → Leaves (goal_graph t) z.node e → Along ws z.node (z.depth + 1) e
        → Tight (table ws) (length k.labels) (k.at (length k.labels)) e
    here-tight e m x =
        let light = weights setting w z.node e (omega (arith, entry_here.0, nodes-are setting w)) m in
        subst₂ (λ (n v : ℕ). Tight (table ws) n v e) (sym k.counted) (sym at_here)
        (along-tight setting w ws z.node z.depth entry_here.1.0 entry_here.1.2 e
        (omega (arith, light, entry_here.1.1, charge-few setting w)) x)

    -- The labels before this one were tried.
    pub tried :
        {label : ℕ} → NoneTight t ws z.node (z.depth + 1) z.label label → Walk (goal_graph t) 0 (table ws) k.labels k.at label
    tried {label} none =
        walk-tried (ground setting w) k.walk label
        (λ e m from to x. none e (subst (λ (v : ℕ). Leaves (goal_graph t) v e) at_here m) from to (tight-here e x))

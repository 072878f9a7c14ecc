-- The graph of a table's states is one that can be searched.
-- Assumes nothing.
use Rattle.std.specs.Prelude.{◌≡◌, refl, List, [], ◌∷◌, ℕ, ◌+◌, ◌*◌, ◌≤◌, length, get_or}
use Rattle.std.proofs.Common.{ap, mul-le-mul, mul-le-mul_right, arith}
use mathlib.Core.List.Memᴰ
use Rattle.semantics.specs.NodeCount.{cell_count}
use Rattle.semantics.specs.Timetable.{state_count}
use Rattle.semantics.specs.Graph.Path.{WeightsWithin}
use Rattle.semantics.specs.Graph.MinuteGraph.{minute_graph}
use Rattle.semantics.specs.Timetables.Edges.{minute-closed, minute-weights}
use Rattle.table.specs.Fields.{most_price}
use Rattle.table.specs.Held.{automaton_of, IsTable}
use Rattle.table.specs.Theorems.Access.{table-proper, amounts-within}
use Rattle.space.specs.Laws.Shares.{some-modes}
use Rattle.search.specs.Searches.{Searchable}
use Rattle.states.specs.declared.States.{States}
use Rattle.states.specs.Laws.Bounds.{count-some, ceiling-few}
use Rattle.minutes.specs.Settings.{most_states, Setting}
use Rattle.minutes.specs.Edges.{graph_of, rooted_of}

-- Timer 0 has two values at least, so there are two states at least.
states-two : (t : List ℕ) → IsTable t → 2 ≤ state_count (automaton_of t)
unfolding state_count
states-two t h = go (automaton_of t).ceilings refl
  where
    go : (cs : List ℕ) → (automaton_of t).ceilings ≡ cs → 2 ≤ length (automaton_of t).modes * cell_count (automaton_of t).ceilings
    go [] e = absurd (omega (arith, (table-proper t h).some-timer, ap length e))
    go (c ∷ cs) e =
        let low : 1 ≤ c = (h.range.ceilings-range c (rw e (Memᴰ.head refl))).0 in
        let two : 1 * 2 ≤ cell_count cs * (c + 1) = (let more : 2 ≤ c + 1 = omega arith in mul-le-mul (count-some cs) more) in
        let all : 1 * 2 ≤ length (automaton_of t).modes * cell_count (automaton_of t).ceilings =
        (let more : 2 ≤ cell_count (automaton_of t).ceilings = rw e (omega (arith, two)) in mul-le-mul (some-modes t h) more) in
        omega (arith, all)

module _ {t rs : List ℕ} {s : States} (set : Setting t rs s) (goal : ℕ) where
  -- There are as many nodes as the struct says.
  pub size : s.count ≡ (graph_of t goal).nodes
  unfolding minute_graph
  size = set.is-states.count-is

  -- A pair is charged at most sixteen times the greatest rate or price.
  pub pairs-light : WeightsWithin (graph_of t goal) (16 * most_price)
  pairs-light v e h l =
      omega (
        arith,
        minute-weights (automaton_of t) (table-proper t set.is-table) goal most_price (amounts-within t set.is-table) v e h l,
        mul-le-mul_right {m = get_or (automaton_of t).ceilings 0 0 + 1} {n = 16} most_price (omega (arith, ceiling-few t set.is-table 0)),
      )

  pub goal-searchable : Searchable (rooted_of t goal)
  goal-searchable =
      let two = states-two t set.is-table in
      let counted = set.is-states.count-is in
      record {
        two = omega (arith, two, counted, size);
        few = omega (arith, set.few, size);
        there = omega (arith, two, counted, size);
        closed = minute-closed (automaton_of t) (table-proper t set.is-table) goal;
        weight = 16 * most_price;
        light = pairs-light;
        small = omega (arith, mul-le-mul_right {m = (graph_of t goal).nodes} {n = most_states} (16 * most_price) (omega (arith, size, set.few)));
      }

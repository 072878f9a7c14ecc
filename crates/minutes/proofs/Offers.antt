-- An edge of the node in hand makes its offer.
-- Assumes nothing.
use mathlib.Core.Path.{◌≡◌}
use mathlib.Core.List.{List}
use Prim.Native.Nat.{ℕ, suc, ◌+◌, ◌*◌, ◌≤◌, ◌<◌}
use native.Mathlib.Nat.{mul-le-mul_right}
use native.Mathlib.Omega.{arith}
use lib.ListN.{length}
use Rattle.semantics.specs.Graph.Path.{Edge, Leaves, infinity, charge_at, steps_at}
use Rattle.semantics.specs.Graph.Near.{turned}
use Rattle.semantics.specs.Paths.Loops.{path-charge}
use Rattle.semantics.specs.Paths.Turned.{turned-nodes, turned-closed, turned-light}
use Rattle.semantics.specs.Timetables.States.{state_at-state}
use Rattle.semantics.specs.Timetables.Edges.{minute-closed}
use Rattle.table.specs.Fields.{most_price}
use Rattle.table.specs.Held.{automaton_of}
use Rattle.table.specs.Theorems.Access.{table-proper}
use Rattle.queue.specs.Queue.{lows, RelaxReady, RelaxDone}
use Rattle.search.specs.Exploring.{InHand, Relaxes, hand-inside, hand-entry, hand-ready, tried-relaxes}
use Rattle.states.specs.declared.States.{States}
use Rattle.minutes.specs.Edges.{Setting, graph_of, rooted_of, state_of}
use Rattle.minutes.specs.Laws.Searchable.{pairs-light}

module _ {t rs : List ℕ} {s : States} (z : Setting t rs s) (goal : ℕ) where
  module _ {u : ℕ} {ws : List ℕ} (h : InHand (rooted_of t goal) s.count u ws) where
    hand-pairs : steps_at (lows s.count ws) u < s.count
    hand-pairs = omega (arith, h.sized, h.settling.costs.few u _ (hand-inside h) (hand-entry h))

    -- The charge of the node in hand and of a pair more is below infinity.
    pub hand-sum : 16 * most_price + charge_at (lows s.count ws) u < infinity
    hand-sum =
        let g = graph_of t goal in
        let w = 16 * most_price in
        let way = h.settling.costs.attained u _ (hand-inside h) (hand-entry h) in
        let most : charge_at (lows s.count ws) u ≤ steps_at (lows s.count ws) u * (16 * most_price) =
        rw (way.charged, way.counted) at (path-charge (turned g 0) (turned-closed g 0) w (turned-light g 0 w (pairs-light z goal)) u way.path (rw (turned-nodes g 0) (hand-inside h)) way.is-path) in
        let few : steps_at (lows s.count ws) u ≤ 4095 = omega (arith, hand-pairs, z.few) in
        omega (arith, most, mul-le-mul_right (16 * most_price) few)

    module _ (e : Edge) (leaves : Leaves (graph_of t goal) u e) where
      pub edge-inside : e.to < s.count
      edge-inside =
          let sized : (graph_of t goal).nodes ≡ s.count = h.sized in
          omega (arith, minute-closed (automaton_of t) (table-proper t z.is-table) goal u e (hand-inside h) leaves, sized)

      edge-room : e.weight + charge_at (lows s.count ws) u < infinity
      edge-room = omega (arith, hand-sum, pairs-light z goal u e (hand-inside h) leaves)

      module _ (charge pairs : ℕ) (charge-is : charge ≡ e.weight + charge_at (lows s.count ws) u)
          (pairs-are : pairs ≡ suc (steps_at (lows s.count ws) u)) (short : pairs < s.count) where
        fewer : suc (steps_at (lows s.count ws) u) < s.count
        fewer = omega (arith, short, pairs-are)

        pub edge-sum : charge < infinity
        edge-sum = omega (arith, edge-room, charge-is)

        pub edge-ready : RelaxReady s.count e.to charge pairs ws
        edge-ready = rw (charge-is, pairs-are) (hand-ready h e leaves edge-inside fewer edge-room)

        pub edge-relaxes :
            (ws' : List ℕ) → RelaxDone s.count e.to charge pairs ws ws' → Relaxes (rooted_of t goal) s.count u (λ y. y ≡ e) ws ws'
        edge-relaxes ws' done = tried-relaxes h e leaves edge-inside fewer edge-room ws' (rw (charge-is, pairs-are) at done)

    -- The mode of the node in hand is there.
    pub hand-mode : (state_of t u).mode < length (automaton_of t).modes
    hand-mode = (state_at-state (automaton_of t) u (omega (arith, h.inside, z.is-states.count-is))).mode

-- The modes of nodes by their numbers: the targets of the graph are the nodes of the goal's mode, and the nodes of a mode have numbers in a row.
-- Assumes nothing.
use Rattle.std.specs.Prelude.{◌≡◌, ◌↔◌, ℕ, suc, ◌+◌, ◌*◌, ◌/◌, ◌<◌, ◌≤◌, length}
use Rattle.std.proofs.Common.{◌∙◌, mul_assoc, suc-mul, le-div_iff_mul-le, div-lt_iff_lt-mul, arith}
use borrow.Author.Tests.{eqb-true, eq-eqb}
use Rattle.semantics.specs.Automaton.{Automaton, timers}
use Rattle.semantics.specs.NodeCount.{corner_count, cell_count, node_count}
use Rattle.semantics.specs.Graph.Path.{Graph, Target}
use Rattle.semantics.specs.Nodes.Node.{node_at}
use Rattle.semantics.specs.Graph.CornerGraph.{corner_graph}
use Rattle.semantics.specs.Nodes.Radix.{factor-pos, quotient-below}

-- The mode of the node with a number.
abbrev pub mode_of_node : Automaton → ℕ → ℕ
mode_of_node a v = (node_at a.ceilings v).mode

-- The class m is the nodes from lo to hi.
abbrev pub Block : Graph → (ℕ → ℕ) → ℕ → ℕ → ℕ → Type 0
Block g class m lo hi = (v : ℕ) → v < g.nodes → (class v ≡ m) ↔ ((lo ≤ v) × (v < hi))

-- The numbers with the first digit m, where two digits below c and k come after it.
digit-block :
    (c k m v : ℕ) → 0 < c → 0 < k → (v / k / c ≡ m) ↔ ((m * (c * k) ≤ v) × (v < m * (c * k) + c * k))
digit-block c k m v pc pk = (
  λ e. (
    let q : m ≤ v / k / c = omega arith in
        omega (arith, (le-div_iff_mul-le {k = k} {x = m * c} {y = v} pk).0 ((le-div_iff_mul-le {k = c} {x = m} {y = v / k} pc).0 q), low),
    let q : v / k / c < suc m = omega arith in
        omega (arith, (div-lt_iff_lt-mul {k = k} {x = v} {y = suc m * c} pk).0 ((div-lt_iff_lt-mul {k = c} {x = v / k} {y = suc m} pc).0 q), high),
  ),
  λ b.
      let q : m * c * k ≤ v = omega (arith, b.0, low) in
      let r : v < suc m * c * k = omega (arith, b.1, high) in
      omega (
        arith,
        (le-div_iff_mul-le {k = c} {x = m} {y = v / k} pc).1 ((le-div_iff_mul-le {k = k} {x = m * c} {y = v} pk).1 q),
        (div-lt_iff_lt-mul {k = c} {x = v / k} {y = suc m} pc).1 ((div-lt_iff_lt-mul {k = k} {x = v} {y = suc m * c} pk).1 r),
      ),
)
  where
    low : m * c * k ≡ m * (c * k)
    low = mul_assoc m c k

    high : suc m * c * k ≡ m * (c * k) + c * k
    high = mul_assoc (suc m) c k ∙ suc-mul m (c * k)

module _ (a : Automaton) (l : ℕ) where
  -- The targets are the nodes of mode l.
  pub graph-goal : (v : ℕ) → Target (corner_graph a l) v ↔ (mode_of_node a v ≡ l)
  unfolding corner_graph
  graph-goal v = (λ t. eqb-true (mode_of_node a v) l t, λ e. eq-eqb (mode_of_node a v) l e)

  -- The nodes of mode m stand in a row: as many as there are corners of all cells.
  pub graph_block :
      (m : ℕ) → m < length a.modes
      → Block (corner_graph a l) (mode_of_node a) m (m * (cell_count a.ceilings * corner_count (timers a) 1))
      (m * (cell_count a.ceilings * corner_count (timers a) 1) + cell_count a.ceilings * corner_count (timers a) 1)
  unfolding node_at node_count corner_graph
  graph_block m there v h =
      let cells = cell_count a.ceilings in
      let corners = corner_count (timers a) 1 in
      let cell = quotient-below (length a.modes * cells) corners h in
      digit-block cells corners m v (factor-pos (length a.modes) cells cell) (factor-pos (length a.modes * cells) corners h)

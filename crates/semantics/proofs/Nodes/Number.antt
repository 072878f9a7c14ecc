-- The number of a node and the node with a number are inverse to each other, between the nodes of an automaton and the numbers below E.
-- Assumes nothing.
use Rattle.std.specs.Prelude.{◌≡◌, ℕ, ◌+◌, ◌*◌, ◌/◌, ◌%◌, ◌<◌, length}
use Rattle.std.proofs.Math.Path.{ap, ap₂}
use Rattle.std.proofs.Common.{◌∙◌, mod-lt}
use Rattle.std.proofs.Math.Nat.{div-add-mod'}
use Rattle.semantics.specs.Automaton.{Automaton, timers}
use Rattle.semantics.specs.NodeCount.{corner_count, cell_count, node_count}
use Rattle.semantics.specs.Corners.Corner.{corner_number, corner_at}
use Rattle.semantics.specs.Nodes.Node.{Node, IsNode, cell_number, cell_at, node_number, node_at}
use Rattle.semantics.specs.Corners.Number.{corner_at-number}
use Rattle.semantics.proofs.Corners.Number.{number-below, number-corner_at, corner_at-listed}
use Rattle.semantics.specs.Nodes.Radix.{pair-below, factor-pos, quotient-below, pair-quotient, pair-remainder}
use Rattle.semantics.specs.Nodes.Cells.{cell_number-below, cell_at-number, number-cell_at, cell_at-cell}

module _ (a : Automaton) where
  -- The number of corners of a cell, and of cells of a mode.
  abbrev corners_of : ℕ
  corners_of = corner_count (timers a) 1

  abbrev cells_of : ℕ
  cells_of = cell_count a.ceilings

  pub node_number-below : (x : Node) → IsNode a x → node_number a.ceilings x < node_count a
  unfolding node_number node_count
  node_number-below x n =
      pair-below corners_of (pair-below cells_of n.mode (cell_number-below a.ceilings x.whole n.cell))
      (number-below (timers a) x.corner n.corner)

  pub node_at-number : (x : Node) → IsNode a x → node_at a.ceilings (node_number a.ceilings x) ≡ x
  unfolding node_number node_at
  node_at-number x n =
      let cell = cell_number a.ceilings x.whole in
      let place = corner_number (timers a) x.corner in
      let b = number-below (timers a) x.corner n.corner in
      let l = cell_number-below a.ceilings x.whole n.cell in
      let q = pair-quotient corners_of (x.mode * cells_of + cell) place b in
      let m = ap (λ (i : ℕ). i / cells_of) q ∙ pair-quotient cells_of x.mode cell l in
      let s = ap (λ (i : ℕ). i % cells_of) q ∙ pair-remainder cells_of x.mode cell l in
      let w = ap (cell_at a.ceilings) s ∙ cell_at-number a.ceilings x.whole n.cell in
      let p = pair-remainder corners_of (x.mode * cells_of + cell) place b in
      let c = ap (corner_at (timers a)) p ∙ corner_at-number (timers a) x.corner n.corner in
      λ i. record { mode = m i; whole = w i; corner = c i }

  module _ (i : ℕ) (h : i < node_count a) where
    corner-pos : 0 < corners_of
    unfolding node_count
    corner-pos = factor-pos (length a.modes * cells_of) corners_of h

    cell_below : i / corners_of < length a.modes * cells_of
    unfolding node_count
    cell_below = quotient-below (length a.modes * cells_of) corners_of h

    pub node_at-node : IsNode a (node_at a.ceilings i)
    unfolding node_at
    node_at-node = record {
      mode = quotient-below (length a.modes) cells_of cell_below;
      cell = cell_at-cell a.ceilings (i / corners_of % cells_of);
      corner = corner_at-listed (timers a) (i % corners_of) (mod-lt i corner-pos);
    }

    pub number-node_at : node_number a.ceilings (node_at a.ceilings i) ≡ i
    unfolding node_at node_number
    number-node_at =
        let q = i / corners_of in
        let cell = number-cell_at a.ceilings (q % cells_of) (mod-lt q (factor-pos (length a.modes) cells_of cell_below)) in
        let place = number-corner_at (timers a) (i % corners_of) (mod-lt i corner-pos) in
        ap₂ (λ (c j : ℕ). (q / cells_of * cells_of + c) * corners_of + j) cell place
        ∙ ap (λ (p : ℕ). p * corners_of + i % corners_of) (div-add-mod' q cells_of) ∙ div-add-mod' i corners_of

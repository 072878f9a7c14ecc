-- The struct `Space` of a table, as code makes it, and the node where chains begin.
-- Assumes nothing.
use mathlib.Core.Path.{◌≡◌, sym, ap, ap₂, ◌∙◌}
use mathlib.Core.List.{List}
use Prim.Native.Nat.{ℕ, ◌*◌, ◌≤◌, ◌<◌}
use native.Mathlib.Nat.{mul-le-mul}
use native.Mathlib.Omega.{arith}
use lib.ListN.{length, take}
use Rattle.semantics.specs.Automaton.{timers}
use Rattle.semantics.specs.Region.{PricedRegion, start}
use Rattle.semantics.specs.NodeCount.{corner_count, cell_count}
use Rattle.semantics.specs.Nodes.Node.{node_of, node_number}
use Rattle.semantics.specs.Graph.CornerGraph.{number_of}
use Rattle.table.specs.Held.{automaton_of, IsTable}
use Rattle.regions.specs.declared.Region.{Region}
use Rattle.regions.specs.Held.{most_timers, pad, pack, view, Valid}
use Rattle.regions.specs.Nodes.{most_modes, most_cells, CeilingsFew, Padded}
use Rattle.regions.specs.Laws.Chain.{Gives, start_gives}
use Rattle.regions.specs.Laws.Nodes.{corners-few, count-padded, table-ceilings, table-padded}
use Rattle.space.specs.declared.Space.{Space}
use Rattle.space.specs.Space.{start_of, IsSpace}
use Rattle.space.specs.Laws.NodeRegion.{space-timers}
use Rattle.space.specs.Laws.Shares.{share, nodes-shared, few-modes, table-timers}
use Rattle.space.proofs.Settings.{node-ready, region-number}

module _ (t : List ℕ) (h : IsTable t) (s : Space) (cells corners modes : ℕ) (timers-are : s.timers ≡ timers (automaton_of t))
    (ceilings-are : s.ceilings ≡ pad most_timers (automaton_of t).ceilings) (cells_are : cells ≡ cell_count s.ceilings)
    (corners-are : corners ≡ corner_count s.timers 1) (modes-are : modes ≡ length (automaton_of t).modes) where
  -- The products fit.
  pub block-few : cells ≤ most_cells → cells * corners ≤ most_cells * 75
  block-few few =
      let most : corners ≤ 75 = omega (arith, corners-are, (corners-few s.timers (omega (arith, timers-are, table-timers t h))).1) in
      mul-le-mul few most

  pub nodes-few : cells ≤ most_cells → modes * (cells * corners) ≤ 16 * (most_cells * 75)
  nodes-few few =
      let most : modes ≤ 16 = omega (arith, modes-are, few-modes t h) in
      mul-le-mul most (block-few few)

  block : cells * corners ≡ share (automaton_of t)
  block =
      let a = automaton_of t in
      ap₂ (λ (x y : ℕ). x * y)
      (cells_are ∙ ap cell_count ceilings-are
      ∙ count-padded (timers a) (pad most_timers a.ceilings) (table-padded t h) ∙ ap cell_count (table-ceilings t h))
      (corners-are ∙ ap (λ (n : ℕ). corner_count n 1) timers-are)

  pub space-is : s.nodes ≡ modes * (cells * corners) → s.block ≡ cells * corners → IsSpace t s
  space-is nodes-are block-is = record {
    nodes-are = nodes-are ∙ ap₂ (λ (x y : ℕ). x * y) modes-are block ∙ sym (nodes-shared (automaton_of t));
    block-is = block-is ∙ block;
    timers-are = timers-are;
    ceilings-are = ceilings-are;
  }

-- The region and the node at which chains begin, as code makes them.
module _ (s : Space) (t : List ℕ) (h : IsTable t) (is : IsSpace t s) (region : Region) (e : region ≡ pack (start s.timers)) where
  start-given : Gives s.timers region (start s.timers)
  start-given = start_gives s.timers region (space-timers h is).0 (space-timers h is).1 e

  -- What is asked for the number of its corner.
  pub start-ready : Valid region × (0 ≤ region.top) × (0 < most_modes) × CeilingsFew s.ceilings × Padded region.timers s.ceilings
  start-ready = node-ready h is region (start-given.timers ∙ is.timers-are) 0 0 start-given.valid (omega arith) (omega arith)

  -- That number.
  pub start_is : (node : ℕ) → node ≡ node_number (take region.timers s.ceilings) (node_of 0 (view region) 0) → node ≡ start_of t
  start_is node q =
      let seen : view region ≡ start (timers (automaton_of t)) = start-given.seen ∙ ap start is.timers-are in
      q ∙ region-number h is region (start-given.timers ∙ is.timers-are) 0 0
      ∙ ap (λ (r : PricedRegion). number_of (automaton_of t) (record { mode = 0; region = r }) 0) seen

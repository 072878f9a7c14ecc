-- The region of which a node is a corner: what a caller may conclude from the contract of `region_at`.
-- Assumes nothing.
use Rattle.std.specs.Prelude.{◌≡◌, refl, List, [], ◌∷◌}
use Rattle.std.proofs.Math.Path.{ap, ap₂, sym, subst}
use Rattle.std.proofs.Common.{◌∙◌, mod-lt, mul-le-mul, arith}
use Prim.Native.Nat.{ℕ, suc, ◌+◌, ◌*◌, ◌/◌, ◌%◌, ◌<◌, ◌≤◌}
use Rattle.std.proofs.Math.Nat.{div-add-mod'}
use Rattle.std.proofs.Math.ListN.{length}
use Rattle.semantics.specs.Region.{PricedRegion, WellFormed, top}
use Rattle.semantics.specs.NodeCount.{corner_count, factor, cell_count}
use Rattle.semantics.specs.Answer.{count_from}
use Rattle.semantics.specs.Nodes.Node.{Node, node_of, IsCell, node_number, node_at}
use Rattle.semantics.specs.Corners.Lists.{length-count_from}
use Rattle.semantics.proofs.Corners.Number.{number-corner_at}
use Rattle.semantics.specs.Corners.Rising.{number-index}
use Rattle.semantics.specs.Nodes.Cells.{number-cell_at, cell_at-length, cell_at-cell}
use Rattle.regions.specs.declared.nodes.NodeRegion.{NodeRegion}
use Rattle.regions.specs.Held.{most_timers, highest, pack, view, Valid}
use Rattle.regions.specs.Nodes.{node_region, pack_node_region}
use Rattle.regions.specs.Laws.Chain.{view-pack, valid-pack}
use Rattle.regions.specs.Laws.Corners.{corner-well-formed, corner-inside}
use Rattle.regions.specs.Laws.Nodes.{corners-few}

cells-some : (cs : List ℕ) → 1 ≤ cell_count cs
cells-some [] = omega arith
cells-some (c ∷ cs) = let some : 1 ≤ factor c = omega arith in mul-le-mul (cells-some cs) some

module _ (cs : List ℕ) (some : 0 < length cs) (few : length cs ≤ most_timers) (i : ℕ) where
  abbrev x : Node
  x = node_at cs i

  corner-there : i % corner_count (length cs) 1 < corner_count (length cs) 1
  corner-there = mod-lt i (corners-few (length cs) few).0

  pub node-region-sized : length x.whole ≡ length cs
  unfolding node_at
  node-region-sized = cell_at-length cs _

  pub node-region-prices : length (node_region x).prices ≡ suc (highest x.corner.group)
  node-region-prices = length-count_from 0 (suc (highest x.corner.group))

  pub node-region-well-formed : WellFormed (node_region x)
  unfolding node_at
  node-region-well-formed =
      corner-well-formed (length cs) (i % corner_count (length cs) 1) some corner-there x.whole (node_region x).prices node-region-sized node-region-prices

  pub node-region-inside : x.corner.index ≤ highest x.corner.group
  unfolding node_at
  node-region-inside = corner-inside (length cs) (i % corner_count (length cs) 1) some corner-there

  -- The node has the number by which it was found.
  number-again : node_number cs x ≡ i
  unfolding node_at node_number
  number-again =
      let k = corner_count (length cs) 1 in
      let c = cell_count cs in
      let q = i / k in
      ap₂ (λ (cell j : ℕ). (q / c * c + cell) * k + j) (number-cell_at cs (q % c) (mod-lt q (cells-some cs)))
      (number-corner_at (length cs) (i % k) corner-there)
      ∙ ap (λ (p : ℕ). p * k + i % k) (div-add-mod' q c) ∙ div-add-mod' i k

  -- The corners of its region have numbers in a row.
  pub node-region-number : node_number cs (node_of x.mode (node_region x) 0) + x.corner.index ≡ i
  unfolding node_number
  node-region-number =
      let inside : x.corner.index < length (node_region x).prices = omega (arith, node-region-inside, node-region-prices) in
      let row = rw node-region-sized at (number-index (node_region x) node-region-well-formed x.corner.index inside) in
      omega (arith, row, number-again)

  -- What the struct says.
  pub record IsNodeRegion (r : NodeRegion) : Type 0 where
    pub valid : Valid r.region
    pub timers-are : r.region.timers ≡ length cs
    pub mode-is : r.mode ≡ x.mode
    pub cell : IsCell cs (view r.region).whole
    pub indexed : (view r.region).prices ≡ count_from 0 (suc (top (view r.region)))
    pub first-is : r.first ≡ node_number cs (node_of r.mode (view r.region) 0)
    pub own : r.first + r.index ≡ i
    pub inside : r.index ≤ top (view r.region)

  pub node-region-holds : (r : NodeRegion) → r ≡ pack_node_region cs x → IsNodeRegion r
  unfolding pack_node_region pack node_at
  node-region-holds r e =
      let k = node_region x in
      let back : k ≡ view (pack k) = sym (view-pack k node-region-well-formed) in
      let many : suc (highest x.corner.group) ≡ suc (top k) = omega (arith, node-region-prices) in
      let inside : x.corner.index ≤ top k = omega (arith, node-region-inside, node-region-prices) in
      subst IsNodeRegion (sym e)
      (record {
        valid = valid-pack k node-region-well-formed (omega (arith, node-region-sized));
        timers-are = node-region-sized;
        mode-is = refl;
        cell = subst (λ (s : PricedRegion). IsCell cs s.whole) back (cell_at-cell cs _);
        indexed = subst (λ (s : PricedRegion). s.prices ≡ count_from 0 (suc (top s))) back (ap (count_from 0) many);
        first-is = ap (λ (s : PricedRegion). node_number cs (node_of x.mode s 0)) back;
        own = node-region-number;
        inside = subst (λ (s : PricedRegion). x.corner.index ≤ top s) back inside;
      })

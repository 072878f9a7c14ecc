-- The struct that `region_at` makes of a node.
-- Assumes nothing.
use mathlib.Core.Path.{◌≡◌, refl, ap, ◌∙◌, sym}
use mathlib.Core.Bool.{cond}
use mathlib.Core.List.{List, [], ◌∷◌}
use Prim.Native.Nat.{ℕ, zero, suc, ◌+◌, ◌-◌, ◌<◌, ◌≤◌}
use native.Mathlib.Omega.{arith}
use lib.Dec.{leb}
use lib.ListN.{length, take}
use lib.Seq.{length-take-le}
use Rattle.semantics.specs.Region.{top}
use Rattle.semantics.specs.Answer.{count_from}
use Rattle.semantics.specs.Nodes.Node.{Node, node_of, node_number, node_at}
use Rattle.semantics.specs.Regions.Groups.{groups-few}
use Rattle.corners.specs.Held.{pack_corner}
use Rattle.regions.specs.declared.Region.{Region}
use Rattle.regions.specs.declared.nodes.NodeAt.{NodeAt}
use Rattle.regions.specs.declared.nodes.NodeRegion.{NodeRegion}
use Rattle.regions.specs.Held.{most_timers, most_corners, highest, pad, pack}
use Rattle.regions.specs.Nodes.{pack_node, node_region, pack_node_region}
use Rattle.regions.specs.Laws.Fields.{packed}
use Rattle.regions.specs.Laws.NodeRegion.{node-region-sized, node-region-prices, node-region-well-formed, node-region-number}

-- The indices of the corners of a region with the corners 0 to top, as its prices.
abbrev pub indices : ℕ → List ℕ
indices top = 0 ∷ cond (leb 1 top) 1 0 ∷ cond (leb 2 top) 2 0 ∷ cond (leb 3 top) 3 0 ∷ []

indices-are : (top : ℕ) → top ≤ 3 → indices top ≡ pad most_corners (count_from 0 (suc top))
indices-are zero h = refl
indices-are (suc zero) h = refl
indices-are (suc (suc zero)) h = refl
indices-are (suc (suc (suc zero))) h = refl
indices-are (suc (suc (suc (suc top)))) h = absurd (omega arith)

module _ (n : ℕ) (l : List ℕ) (three : length l ≡ 3) (some : 1 ≤ n) (few : n ≤ most_timers) (i : ℕ) (k : NodeAt)
    (is : k ≡ pack_node (node_at (take n l) i)) where
  abbrev x : Node
  x = node_at (take n l) i

  many : length (take n l) ≡ n
  many = length-take-le n l (omega arith)

  some-ceiling : 0 < length (take n l)
  some-ceiling = omega (arith, many)

  few-ceilings : length (take n l) ≤ most_timers
  few-ceilings = omega (arith, many)

  top-is : k.corner.top ≡ highest x.corner.group
  unfolding pack_node pack_corner
  top-is = ap (λ (m : NodeAt). m.corner.top) is

  index_is : k.corner.index ≡ x.corner.index
  unfolding pack_node pack_corner
  index_is = ap (λ (m : NodeAt). m.corner.index) is

  number : node_number (take n l) (node_of x.mode (node_region x) 0) + x.corner.index ≡ i
  number = node-region-number (take n l) some-ceiling few-ceilings i

  -- The subtraction does not go below 0.
  pub index-few : k.corner.index ≤ i
  index-few = omega (arith, index_is, number)

  region-is :
      ◌≡◌ {A = Region}
      (record { timers = n; top = k.corner.top; whole = k.whole; group = k.corner.group; prices = indices k.corner.top })
      (pack (node_region x))
  unfolding pack_node pack_corner
  region-is =
      let sized = node-region-sized (take n l) some-ceiling few-ceilings i in
      let prices = node-region-prices (take n l) some-ceiling few-ceilings i in
      let w = node-region-well-formed (take n l) some-ceiling few-ceilings i in
      let low : k.corner.top ≤ 3 = omega (arith, top-is, groups-few (node_region x) w, prices, sized, many) in
      packed _ (node_region x) (sym (sized ∙ many)) (omega (arith, top-is, prices)) (ap (λ (m : NodeAt). m.whole) is)
      (ap (λ (m : NodeAt). m.corner.group) is)
      (indices-are k.corner.top low ∙ ap (λ (j : ℕ). pad most_corners (count_from 0 (suc j))) top-is)

  pub node-region-is :
      ◌≡◌ {A = NodeRegion}
      (record {
        mode = k.mode;
        region = record { timers = n; top = k.corner.top; whole = k.whole; group = k.corner.group; prices = indices k.corner.top };
        first = i - k.corner.index;
        index = k.corner.index;
      })
      (pack_node_region (take n l) x)
  unfolding pack_node_region pack_node
  node-region-is =
      let first : i - k.corner.index ≡ node_number (take n l) (node_of x.mode (node_region x) 0) = omega (arith, index_is, number) in
      let mode : k.mode ≡ x.mode = ap (λ (m : NodeAt). m.mode) is in
      λ j. record { mode = mode j; region = region-is j; first = first j; index = index_is j }

-- Nodes by their numbers, over arrays of three ceilings.
-- Assumes nothing.
use mathlib.Core.Path.{◌≡◌, sym, ap, ap₂, ◌∙◌}
use mathlib.Core.List.{List}
use Prim.Native.Nat.{ℕ, ◌+◌, ◌*◌, ◌/◌, ◌%◌, ◌≤◌}
use native.Mathlib.Nat.{mul-le-mul}
use native.Mathlib.Omega.{arith}
use lib.ListN.{length, take}
use lib.Seq.{length-take-le}
use Rattle.semantics.specs.Region.{PricedRegion}
use Rattle.semantics.specs.NodeCount.{corner_count, cell_count}
use Rattle.semantics.specs.Corners.Corner.{corner_of, corner_number, corner_at}
use Rattle.semantics.specs.Nodes.Node.{cell_number, cell_at, node_of, node_number, node_at}
use Rattle.regions.specs.declared.Region.{Region}
use Rattle.regions.specs.declared.nodes.NodeAt.{NodeAt}
use Rattle.corners.specs.Held.{pack_corner}
use Rattle.regions.specs.Held.{pad}
use Rattle.regions.specs.Nodes.{Padded, pack_node}
use Rattle.regions.specs.Laws.Fields.{Holds, timers-is, whole_is}
use Rattle.regions.specs.Laws.Nodes.{count-padded, number-padded, at-padded}

-- A product of two numbers that have bounds.
pub product-few : (m n p q : ℕ) → m ≤ p → n ≤ q → m * n ≤ p * q
product-few m n p q h k = mul-le-mul h k

-- The first n of three ceilings are n.
ceilings-many : (n : ℕ) (l : List ℕ) → n ≤ 3 → length l ≡ 3 → length (take n l) ≡ n
ceilings-many n l h three = length-take-le n l (omega arith)

module _ (l : List ℕ) (three : length l ≡ 3) where
  -- The number of the node that is a region's corner.
  pub node-number-is : (s : Region) (r : PricedRegion) → Holds s r → Padded s.timers l → (mode index : ℕ) →
      (mode * cell_count l + cell_number l s.whole) * corner_count s.timers 1 + corner_number s.timers (corner_of r index)
      ≡ node_number (take s.timers l) (node_of mode r index)
  unfolding node_number
  node-number-is s r h p mode index =
      let many = ceilings-many s.timers l h.few three in
      let count = count-padded s.timers l p in
      let number : cell_number l s.whole ≡ cell_number (take s.timers l) r.whole =
      ap (cell_number l) (whole_is s r h) ∙ number-padded s.timers l p r.whole (sym (timers-is s r h) ∙ sym many) in
      ap₂ (λ (k m : ℕ). (mode * k + m) * corner_count s.timers 1 + corner_number s.timers (corner_of r index)) count number
      ∙ ap (λ (n : ℕ). (mode * cell_count (take s.timers l) + cell_number (take s.timers l) r.whole) * corner_count n 1 + corner_number n (corner_of r index)) (sym many)

  -- The struct of the node with a number.
  pub node-at-is : (n : ℕ) → n ≤ 3 → Padded n l → (i : ℕ) →
      ◌≡◌ {A = NodeAt} (record {
        mode = i / corner_count n 1 / cell_count l;
        whole = cell_at l (i / corner_count n 1 % cell_count l);
        corner = pack_corner (corner_at n (i % corner_count n 1));
      }) (pack_node (node_at (take n l) i))
  unfolding pack_node node_at
  node-at-is n h p i =
      let many = ceilings-many n l h three in
      ap₂ {C = NodeAt} (λ (m : List ℕ) (k : ℕ). record {
        mode = i / corner_count n 1 / k;
        whole = m;
        corner = pack_corner (corner_at n (i % corner_count n 1));
      }) (at-padded n l p (i / corner_count n 1 % cell_count l) ∙ ap (λ (k : ℕ). pad 3 (cell_at (take n l) (i / corner_count n 1 % k))) (count-padded n l p)) (count-padded n l p)
      ∙ ap {B = NodeAt} (λ (m : ℕ). record {
        mode = i / corner_count m 1 / cell_count (take n l);
        whole = pad 3 (cell_at (take n l) (i / corner_count m 1 % cell_count (take n l)));
        corner = pack_corner (corner_at m (i % corner_count m 1));
      }) (sym many)

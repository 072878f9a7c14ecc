-- The list of corners of a cell: every corner of every well-formed region is in it, whatever is in it is a corner of a region, and nothing is
-- in it twice.
-- Assumes nothing.
use Rattle.std.specs.Prelude.{◌≡◌, refl, ℕ, zero, suc, pred, ◌<◌, length, get_or}
use Rattle.std.proofs.Common.{ap, ◌∙◌, sym, subst, ⊎_elim, le_of_suc-le-suc, arith}
use mathlib.Core.List.Memᴰ
use mathlib.Core.List.{List, [], ◌∷◌, map, Memᴰ}
use Rattle.std.proofs.Math.Decide.{dec_lt}
use Rattle.std.proofs.Math.Dec.{eqb-suc-zero}
use Rattle.std.proofs.lemmas.List.{length-map}
use Rattle.std.proofs.Math.ListN.{get_or-eq_default}
use Rattle.semantics.specs.Region.{PricedRegion, WellFormed, count, top}
use Rattle.semantics.specs.Answer.{count_from}
use Rattle.semantics.specs.Corners.Corner.{Corner, corner_of, WeakOrder, flat_map, weak_orders, region_corners, zero_corners, open_corners, corners}
use Rattle.semantics.specs.Regions.Lists.{get_or_map, map_below}
use Rattle.semantics.specs.Regions.Count.{count-pos, count_map, count-map-suc}
use Rattle.semantics.specs.Regions.Cases.{zero-cases}
use Rattle.semantics.specs.Regions.Groups.{zero-full}
use Rattle.semantics.specs.Regions.Lengths.{prices-top}
use Rattle.semantics.specs.Corners.Lists.{mem_below, below-bound, mem-flat_map, mem-of-flat_map, Distinct, distinct_append, distinct-map, distinct-flat_map, distinct-count_from}
use Rattle.semantics.specs.Corners.Blocks.{Blocks, blocks-unique}
use Rattle.semantics.specs.Corners.WeakOrders.{weak_orders-complete, weak_orders-sound, weak_orders-distinct}

map-suc-pred : (g : List ℕ) → count 0 g ≡ 0 → map suc (map pred g) ≡ g
map-suc-pred [] z = refl
map-suc-pred (zero ∷ g) z = absurd (omega arith)
map-suc-pred (suc x ∷ g) z = ap (λ (l : List ℕ). suc x ∷ l) (map-suc-pred g (rw (eqb-suc-zero x) at z))

map-suc-once : (g h : List ℕ) → map suc g ≡ map suc h → g ≡ h
map-suc-once g h e = sym (undone g) ∙ ap (map pred) e ∙ undone h
  where
    undone : (l : List ℕ) → map pred (map suc l) ≡ l
    undone [] = refl
    undone (x ∷ l) = ap (λ (k : List ℕ). x ∷ k) (undone l)

-- The corners of one region.
mem-region_corners : (g : List ℕ) (prices j : ℕ) → j < prices → Memᴰ (record { group = g; index = j }) (region_corners g prices)
mem-region_corners g prices j h = Memᴰ.map (λ (i : ℕ). record { group = g; index = i }) (mem_below prices j h)

of-region_corners : (g : List ℕ) (prices : ℕ) (c : Corner) → Memᴰ c (region_corners g prices) → (c.group ≡ g) × (c.index < prices)
of-region_corners g prices c m =
    let o = Memᴰ.of_map (λ (i : ℕ). record { group = g; index = i }) (count_from 0 prices) m in (
      sym (ap (λ (d : Corner). d.group) o.2),
      subst (λ (i : ℕ). i < prices) (ap (λ (d : Corner). d.index) o.2) (below-bound prices o.0 o.1),
    )

distinct-region_corners : (g : List ℕ) (prices : ℕ) → Distinct (region_corners g prices)
distinct-region_corners g prices = distinct-map _ (λ a b e. ap (λ (c : Corner). c.index) e) (count_from 0 prices) (distinct-count_from 0 prices)

-- The weak order of a region's timers, where r0 holds a timer and where it is empty.
abbrev pub zero_order : PricedRegion → WeakOrder
zero_order r = record { blocks = length r.prices; block = r.group }

abbrev pub open_order : PricedRegion → WeakOrder
open_order r = record { blocks = top r; block = map pred r.group }

module _ (r : PricedRegion) (w : WellFormed r) where
  pub zero-order : 0 < count 0 r.group → Memᴰ (zero_order r) (weak_orders (length r.whole))
  zero-order z =
      weak_orders-complete (length r.whole) (length r.prices) r.group w.paired
      (record { below = λ i h. w.below i; full = zero-full r w z })

  pub open_order_lem : count 0 r.group ≡ 0 → Memᴰ (open_order r) (weak_orders (length r.whole))
  open_order_lem z =
      weak_orders-complete (length r.whole) (top r) (map pred r.group) (length-map r.group pred ∙ w.paired)
      (record { below = below; full = full })
    where
      below : (i : ℕ) → i < length (map pred r.group) → get_or (map pred r.group) i 0 < top r
      below i h =
          let k : i < length r.group = rw (length-map r.group pred) at h in
          let n : (get_or r.group i 0 ≡ 0 → ⊥) = λ e. omega (arith, count-pos 0 i r.group k e) in
          rw (get_or_map pred r.group i k) (omega (arith, w.below i, prices-top r w.priced))

      full : (x : ℕ) → x < top r → 0 < count x (map pred r.group)
      full x h = omega (arith, count_map pred (suc x) x refl r.group, w.full (suc x) (omega arith) (omega (arith, prices-top r w.priced)))

  -- The corners of the weak order are the region's.
  pub open-corners : count 0 r.group ≡ 0 → open_corners (open_order r) ≡ region_corners r.group (length r.prices)
  open-corners z =
      ap (λ (g : List ℕ). region_corners g (suc (top r))) (map-suc-pred r.group z)
      ∙ ap (region_corners r.group) (sym (prices-top r w.priced))

  -- Every corner of a region is in the list of corners.
  pub corner-listed : (j : ℕ) → j < length r.prices → Memᴰ (corner_of r j) (corners (length r.whole))
  corner-listed j h = ⊎_elim opened zeroed (zero-cases r)
    where
      n : ℕ
      n = length r.whole

      m : Memᴰ (corner_of r j) (region_corners r.group (length r.prices))
      m = mem-region_corners r.group (length r.prices) j h

      opened : count 0 r.group ≡ 0 → Memᴰ (corner_of r j) (corners n)
      opened z =
          Memᴰ.append_right (flat_map zero_corners (weak_orders n))
          (mem-flat_map open_corners (open_order_lem z) (subst (Memᴰ (corner_of r j)) (sym (open-corners z)) m))

      zeroed : 0 < count 0 r.group → Memᴰ (corner_of r j) (corners n)
      zeroed p = Memᴰ.append_left (flat_map open_corners (weak_orders n)) (mem-flat_map zero_corners (zero-order p) m)

-- c is a corner of the regions of n timers with its groups and so many prices, whatever their whole parts and their prices.
pub record IsCorner (n : ℕ) (c : Corner) : Type 0 where
  pub prices : ℕ
  pub inside : c.index < prices
  pub well-formed : (r : PricedRegion) → length r.whole ≡ n → r.group ≡ c.group → length r.prices ≡ prices → WellFormed r

-- What is read past the end of the block numbers is 0.
blocks-bound : (b : ℕ) (g : List ℕ) → Blocks b g → 0 < b → (i : ℕ) → get_or g i 0 < b
blocks-bound b g c p i = go (dec_lt i (length g))
  where
    go : Dec (i < length g) → get_or g i 0 < b
    go (yes h) = c.below i h
    go (no h) = rw (get_or-eq_default g 0 {n = i} (omega arith)) p

-- Each block moved up one place.
full-suc : (b : ℕ) (g : List ℕ) → Blocks b g → (x : ℕ) → 0 < x → x < suc b → 0 < count x (map suc g)
full-suc b g c zero h l = absurd (omega arith)
full-suc b g c (suc x) h l = omega (arith, count_map suc x (suc x) refl g, c.full x (le_of_suc-le-suc l))

-- The numbers of a weak order's blocks make a region well-formed.
module _ (n : ℕ) (c : Corner) (pos : 0 < n) (w : WeakOrder) (m : Memᴰ w (weak_orders n)) where
  zero-corner : Memᴰ c (zero_corners w) → IsCorner n c
  zero-corner k =
      let o = of-region_corners w.block w.blocks c k in
      let b = weak_orders-sound n w m in
      record {
        prices = w.blocks;
        inside = o.1;
        well-formed = λ r e f p.
            let g : r.group ≡ w.block = f ∙ o.0 in
            record {
              some = rw e pos;
              paired = ap length g ∙ b.1 ∙ sym e;
              priced = omega (arith, o.1);
              below = λ i. rw (g, p) (blocks-bound w.blocks w.block b.0 (omega (arith, o.1)) i);
              full = λ x h l. rw g (b.0.full x (rw p at l));
            };
      }

  open-corner : Memᴰ c (open_corners w) → IsCorner n c
  open-corner k =
      let o = of-region_corners (map suc w.block) (suc w.blocks) c k in
      let b = weak_orders-sound n w m in
      record {
        prices = suc w.blocks;
        inside = o.1;
        well-formed = λ r e f p.
            let g : r.group ≡ map suc w.block = f ∙ o.0 in
            record {
              some = rw e pos;
              paired = ap length g ∙ length-map w.block suc ∙ b.1 ∙ sym e;
              priced = omega arith;
              below = λ i. rw (g, p) (map_below suc (suc w.blocks) (omega arith) w.block (λ j h. omega (arith, b.0.below j h)) i);
              full = λ x h l. rw g (full-suc w.blocks w.block b.0 x h (rw p at l));
            };
      }

-- Whatever is in the list is a corner of a region.
pub corners-sound : (n : ℕ) (c : Corner) → 0 < n → Memᴰ c (corners n) → IsCorner n c
corners-sound n c pos m =
    ⊎_elim
    (λ k.
    let o = mem-of-flat_map zero_corners (weak_orders n) c k in
    zero-corner n c pos o.0 o.1 o.2)
    (λ k.
    let o = mem-of-flat_map open_corners (weak_orders n) c k in
    open-corner n c pos o.0 o.1 o.2)
    (Memᴰ.append_cases (flat_map zero_corners (weak_orders n)) m)

-- Two weak orders with the same blocks are the same.
order-once : (n : ℕ) (v w : WeakOrder) → Memᴰ v (weak_orders n) → Memᴰ w (weak_orders n) → v.block ≡ w.block → v ≡ w
order-once n v w m k e =
    let b = subst (Blocks v.blocks) e (weak_orders-sound n v m).0 in
    let p = blocks-unique v.blocks w.blocks w.block b (weak_orders-sound n w k).0 in
    λ i. record { blocks = p i; block = e i }

-- Nothing is in the list twice.
pub corners-distinct : (n : ℕ) → Distinct (corners n)
corners-distinct n =
    distinct_append (flat_map zero_corners (weak_orders n)) (flat_map open_corners (weak_orders n))
    (distinct-flat_map zero_corners (weak_orders n) (weak_orders-distinct n) (λ w m. distinct-region_corners w.block w.blocks)
    (λ v w c m k p q.
    let e = (of-region_corners v.block v.blocks c p).0 in
    let f = (of-region_corners w.block w.blocks c q).0 in
    order-once n v w m k (sym e ∙ f)))
    (distinct-flat_map open_corners (weak_orders n) (weak_orders-distinct n) (λ w m. distinct-region_corners (map suc w.block) (suc w.blocks))
    (λ v w c m k p q.
    let e = (of-region_corners (map suc v.block) (suc v.blocks) c p).0 in
    let f = (of-region_corners (map suc w.block) (suc w.blocks) c q).0 in
    order-once n v w m k (map-suc-once v.block w.block (sym e ∙ f))))
    apart
  where
    apart : (c : Corner) → Memᴰ c (flat_map zero_corners (weak_orders n)) → Memᴰ c (flat_map open_corners (weak_orders n)) → ⊥
    apart c m k =
        let o = mem-of-flat_map zero_corners (weak_orders n) c m in
        let p = mem-of-flat_map open_corners (weak_orders n) c k in
        let e = of-region_corners o.0.block o.0.blocks c o.2 in
        let f = of-region_corners (map suc p.0.block) (suc p.0.blocks) c p.2 in
        let z : count 0 o.0.block ≡ 0 = ap (count 0) (sym e.0 ∙ f.0) ∙ count-map-suc p.0.block in
        omega (arith, (weak_orders-sound n o.0 o.1).0.full 0 (omega (arith, e.1)))

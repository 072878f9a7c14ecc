-- The corners of a region have numbers in a row.
-- Assumes nothing.
use Rattle.std.specs.Prelude.{◌≡◌, List, ℕ, ◌+◌, ◌<◌, ◌≤◌, length, get_or}
use Rattle.std.proofs.Common.{ap, ◌∙◌, sym, subst, ⊎_elim, zero-add, arith}
use Rattle.std.proofs.lemmas.List.{length-map}
use Rattle.std.proofs.Math.ListN.{get_or-map}
use Rattle.semantics.specs.Region.{PricedRegion, WellFormed, count}
use Rattle.semantics.specs.Answer.{count_from}
use Rattle.semantics.specs.Corners.Corner.{Corner, corner_of, flat_map, weak_orders, region_corners, zero_corners, open_corners, corners, corner_number}
use Rattle.semantics.specs.Regions.Cases.{zero-cases}
use Rattle.semantics.specs.Corners.Lists.{length-count_from, get_or-count_from}
use Rattle.semantics.specs.Corners.Piece.{Piece, piece-append, piece-right, piece-flat_map}
use Rattle.semantics.specs.Corners.Complete.{zero_order, open_order, zero-order, open_order_lem, open-corners}
use Rattle.semantics.specs.Corners.Number.{number-get_or}

get_or-region_corners :
    (g : List ℕ) (prices j : ℕ) → j < prices
    → get_or (region_corners g prices) j (record { group = g; index = 0 }) ≡ record { group = g; index = j }
get_or-region_corners g prices j h =
    get_or-map (λ (i : ℕ). record { group = g; index = i }) (count_from 0 prices) j 0
    ∙ ap (λ (i : ℕ). record { group = g; index = i }) (get_or-count_from 0 prices j 0 h ∙ zero-add j)

length-region_corners : (g : List ℕ) (prices : ℕ) → length (region_corners g prices) ≡ prices
length-region_corners g prices = length-map (count_from 0 prices) _ ∙ length-count_from 0 prices

-- How many corners come before those of the regions with an empty r0.
abbrev zero_count : ℕ → ℕ
zero_count n = length (flat_map zero_corners (weak_orders n))

module _ (r : PricedRegion) (w : WellFormed r) where
  -- The corners of the region stand in one piece in the list, so that their numbers are p, p + 1, ..
  piece-number :
      (p : ℕ) → Piece (region_corners r.group (length r.prices)) (corners (length r.whole)) p
      → (j : ℕ) → j < length r.prices → corner_number (length r.whole) (corner_of r j) ≡ p + j
  piece-number p k j h =
      let n = length r.whole in
      let e = length-region_corners r.group (length r.prices) in
      let i = k.entry j (corner_of r 0) (rw e h) ∙ get_or-region_corners r.group (length r.prices) j h in
      ap (corner_number n) (sym i) ∙ number-get_or n (p + j) (corner_of r 0) (omega (arith, k.fits, e))

  -- Where r0 holds a timer the numbers are below `zero_count`.
  zero-numbers :
      0 < count 0 r.group
      → (p : ℕ) × (p + length r.prices ≤ zero_count (length r.whole))
      × ((j : ℕ) → j < length r.prices → corner_number (length r.whole) (corner_of r j) ≡ p + j)
  zero-numbers z =
      let n = length r.whole in
      let o = piece-flat_map zero_corners (weak_orders n) (zero_order r) (zero-order r w z) in (
        o.0,
        omega (arith, o.1.fits, length-region_corners r.group (length r.prices)),
        piece-number o.0 (piece-append _ (flat_map zero_corners (weak_orders n)) (flat_map open_corners (weak_orders n)) o.0 o.1),
      )

  -- Where r0 is empty they are not.
  open-numbers :
      count 0 r.group ≡ 0
      → (p : ℕ) × (zero_count (length r.whole) ≤ p)
      × ((j : ℕ) → j < length r.prices → corner_number (length r.whole) (corner_of r j) ≡ p + j)
  open-numbers z =
      let n = length r.whole in
      let o = piece-flat_map open_corners (weak_orders n) (open_order r) (open_order_lem r w z) in
      let k = subst (λ (l : List Corner). Piece l (flat_map open_corners (weak_orders n)) o.0) (open-corners r w z) o.1 in (
        zero_count n + o.0,
        omega arith,
        piece-number (zero_count n + o.0) (piece-right (flat_map zero_corners (weak_orders n)) _ (flat_map open_corners (weak_orders n)) o.0 k),
      )

module _ (r : PricedRegion) (w : WellFormed r) where
  -- The corners of a region have numbers in a row.
  pub number-index :
      (j : ℕ) → j < length r.prices
      → corner_number (length r.whole) (corner_of r j) ≡ corner_number (length r.whole) (corner_of r 0) + j
  number-index j h =
      ⊎_elim
      (λ z. let o = open-numbers r w z in omega (arith, o.2 j h, o.2 0 w.priced))
      (λ z. let o = zero-numbers r w z in omega (arith, o.2 j h, o.2 0 w.priced))
      (zero-cases r)

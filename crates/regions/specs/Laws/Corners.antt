-- The number of a region's corner is below the number of corners, and the corner with a number belongs to the regions of its groups.
-- Assumes nothing.
use Rattle.std.specs.Prelude.{◌≡◌, refl, ℕ, suc, ◌<◌, ◌≤◌, length, replicate}
use Rattle.std.proofs.Common.{◌∙◌, sym, arith}
use mathlib.Core.List.{List, Memᴰ}
use Rattle.std.proofs.lemmas.List.{length-replicate}
use Rattle.semantics.specs.Region.{PricedRegion, WellFormed}
use Rattle.semantics.specs.NodeCount.{corner_count}
use Rattle.semantics.specs.Corners.Corner.{corner_of, corners, corner_number, corner_at}
use Rattle.semantics.specs.Corners.Complete.{IsCorner, corner-listed, corners-sound}
use Rattle.semantics.proofs.Corners.Number.{corner_at-listed, number-below}
use Rattle.semantics.specs.Answers.Places.{highest-prices}
use Rattle.regions.specs.declared.Region.{Region}
use Rattle.regions.specs.Held.{highest}
use Rattle.regions.specs.Laws.Fields.{Holds, timers-is, prices-many}

module _ (s : Region) (r : PricedRegion) (h : Holds s r) (j : ℕ) (there : j ≤ s.top) where
  pub corner-listed-at : Memᴰ (corner_of r j) (corners s.timers)
  corner-listed-at = rw (timers-is s r h) (corner-listed r h.well_formed j (omega (arith, prices-many s r h)))

  pub corner-below : corner_number s.timers (corner_of r j) < corner_count s.timers 1
  corner-below = number-below s.timers (corner_of r j) corner-listed-at

module _ (n i : ℕ) (some : 0 < n) (there : i < corner_count n 1) where
  is-corner : IsCorner n (corner_at n i)
  is-corner = corners-sound n (corner_at n i) some (corner_at-listed n i there)

  -- How many prices the regions of the corner have: as many as groups, with r0.
  corner-prices : is-corner.prices ≡ suc (highest (corner_at n i).group)
  corner-prices =
      let m = is-corner.prices in
      let r : PricedRegion = record { whole = replicate n 0; group = (corner_at n i).group; prices = replicate m 0 } in
      let many = length-replicate {A = ℕ} m 0 in
      let w : WellFormed r = is-corner.well-formed r (length-replicate n 0) refl many in
      sym many ∙ sym (highest-prices r w)

  -- Whole parts and prices of the right number make a region of it.
  pub corner-well-formed :
      (whole prices : List ℕ) → length whole ≡ n → length prices ≡ suc (highest (corner_at n i).group)
      → WellFormed (record { whole = whole; group = (corner_at n i).group; prices = prices })
  corner-well-formed whole prices e p = is-corner.well-formed _ e refl (p ∙ sym corner-prices)

  -- The corner's price is one of them.
  pub corner-inside : (corner_at n i).index ≤ highest (corner_at n i).group
  corner-inside = omega (arith, is-corner.inside, corner-prices)

-- The number of a region's corner, by the table of first corners.
-- Assumes nothing.
use mathlib.Core.Path.{◌≡◌, sym}
use Prim.Native.Nat.{ℕ, ◌+◌, ◌<◌, ◌≤◌}
use native.Mathlib.Omega.{arith}
use lib.ListN.{length}
use Rattle.semantics.specs.Region.{PricedRegion}
use Rattle.semantics.specs.Corners.Corner.{corner_of, corner_number}
use Rattle.semantics.specs.Corners.Rising.{number-index}
use Rattle.corners.specs.Tables.{first_at}
use Rattle.corners.specs.Laws.Corners.{place, first-is}
use Rattle.regions.specs.declared.Region.{Region}
use Rattle.regions.specs.Laws.Fields.{Holds, group_at, group-length, group-few, prices-many}

-- The table's entry for a struct, and a corner's index, give the number of the corner.
pub number_is :
    (s : Region) (r : PricedRegion) → Holds s r → (j : ℕ) → j ≤ s.top
    → first_at (place s.timers s.group) + j ≡ corner_number s.timers (corner_of r j)
number_is s r h j there =
    let at = group_at s r h in
    let n = group-length s r h in
    let few : length r.group ≤ 3 = omega (arith, n, h.few) in
    let some : 0 < length r.group = omega (arith, h.well_formed.paired, h.well_formed.some) in
    let first = first-is r.group some few (λ i. omega (arith, at i, group-few s r h i)) in
    let inside : j < length r.prices = omega (arith, prices-many s r h) in
    let row = number-index r h.well_formed j inside in
    rw (at 0, at 1, at 2, ← n, first) (sym (rw (← h.well_formed.paired) at row))

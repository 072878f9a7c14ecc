-- The corners of a region that stays at or below the ceilings are nodes.
-- Assumes nothing.
use Rattle.std.specs.Prelude.{◌≡◌, true, List, ℕ, suc, ◌+◌, ◌*◌, ◌<◌, ◌≤◌, length, get_or}
use Rattle.std.proofs.Math.Nat.{le_of_mul-le-mul_left}
use Rattle.std.proofs.Common.{arith}
use Rattle.semantics.specs.Region.{PricedRegion, WellFormed, top, within}
use Rattle.semantics.specs.Nodes.Node.{IsCell}
use Rattle.semantics.proofs.Regions.Points.{point_of, region-point, within-points}

module _ (r : PricedRegion) (w : WellFormed r) where
  -- The whole parts are at or below the ceilings.
  pub within-whole :
      (ceilings : List ℕ) → length ceilings ≤ length r.whole → within ceilings r ≡ true → (x : ℕ) → x < length ceilings
      → get_or r.whole x 0 ≤ get_or ceilings x 0
  within-whole ceilings l t x h =
      let p : suc (top r) * get_or r.whole x 0 + get_or r.group x 0 ≤ suc (top r) * get_or ceilings x 0 =
      (within-points r w ceilings l).0 t (suc (top r)) (point_of r) (region-point r w) x h in
      let q : suc (top r) * get_or r.whole x 0 ≤ suc (top r) * get_or ceilings x 0 = omega arith in
      le_of_mul-le-mul_left q (omega arith)

  pub within-cell : (ceilings : List ℕ) → length r.whole ≡ length ceilings → within ceilings r ≡ true → IsCell ceilings r.whole
  within-cell ceilings e t = record { sized = e; below = λ x h. omega (arith, within-whole ceilings (omega arith) t x h) }

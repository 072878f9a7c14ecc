-- The regions of one cell, found by the numbers of its corners.
-- Assumes nothing.
use mathlib.Core.Path.{◌≡◌, refl}
use mathlib.Core.List.{List, [], ◌∷◌}
use Prim.Native.Nat.{ℕ, zero, suc, ◌≤◌}
use native.Mathlib.Omega.{arith}
use lib.ListN.{length, take}
use lib.Seq.{length-take-le}
use Rattle.semantics.specs.Nodes.Node.{node_at}
use Rattle.semantics.specs.Regions.Lists.{replicate-zero}
use Rattle.regions.specs.declared.nodes.NodeRegion.{NodeRegion}
use Rattle.regions.specs.Held.{most_timers}
use Rattle.regions.specs.Nodes.{CeilingsFew, Padded, pack_node_region}
use Rattle.regions.specs.Laws.NodeRegion.{IsNodeRegion, node-region-holds}

-- The ceilings, all 0.
abbrev pub zeros : List ℕ
zeros = 0 ∷ 0 ∷ 0 ∷ []

pub zeros-few : CeilingsFew zeros
zeros-few i = omega (arith, replicate-zero most_timers i)

pub zeros-padded : (n : ℕ) → n ≤ most_timers → Padded n zeros
zeros-padded zero h = refl
zeros-padded (suc zero) h = refl
zeros-padded (suc (suc zero)) h = refl
zeros-padded (suc (suc (suc zero))) h = refl
zeros-padded (suc (suc (suc (suc n)))) h = absurd (omega arith)

-- The region around a number.
module _ (n : ℕ) (some : 1 ≤ n) (few : n ≤ most_timers) where
  pub zeros-many : length (take n zeros) ≡ n
  zeros-many = length-take-le n zeros (omega arith)

  pub cell-region :
      (i : ℕ) (r : NodeRegion) → r ≡ pack_node_region (take n zeros) (node_at (take n zeros) i)
      → IsNodeRegion (take n zeros) (omega (arith, zeros-many)) (omega (arith, zeros-many)) i r
  cell-region i r e = node-region-holds (take n zeros) (omega (arith, zeros-many)) (omega (arith, zeros-many)) i r e

-- The number of a corner is its place in the list of corners: the number of a corner and the corner with a number are inverse to each other.
-- Assumes nothing.
use Rattle.std.specs.Prelude.{◌≡◌, ℕ, ◌<◌}
use Rattle.std.proofs.Math.Path.{ap}
use Rattle.std.proofs.Common.{◌∙◌, sym}
use mathlib.Core.List.{Memᴰ}
use Rattle.semantics.specs.NodeCount.{corner_count}
use Rattle.semantics.specs.Corners.Corner.{Corner, corners, corner_number, corner_at}
use Rattle.semantics.specs.Corners.Lists.{mem-get_or, mem-place}
use Rattle.semantics.proofs.Corners.Count.{corners-length}
use Rattle.semantics.specs.Corners.Number.{number-get_or}

module _ (n : ℕ) where
  pub corner_at-listed : (i : ℕ) → i < corner_count n 1 → Memᴰ (corner_at n i) (corners n)
  unfolding corner_at
  corner_at-listed i h = mem-get_or (corners n) i _ (rw (corners-length n) h)

  -- The corner with a number has that number.
  pub number-corner_at : (i : ℕ) → i < corner_count n 1 → corner_number n (corner_at n i) ≡ i
  unfolding corner_at
  number-corner_at i h = number-get_or n i _ (rw (corners-length n) h)

  -- A corner's number is below the number of corners, and the corner with that number is the corner.
  pub number-below : (c : Corner) → Memᴰ c (corners n) → corner_number n c < corner_count n 1
  number-below c m =
      let o = mem-place (corners n) c m in
      let e : corner_number n c ≡ o.0 = ap (corner_number n) (sym (o.2 c)) ∙ number-get_or n o.0 c o.1 in
      rw (e, ← corners-length n) o.1

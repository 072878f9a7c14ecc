-- A corner divides the groups: at corner j of a region with groups 0 to k, group i is up, taken one minute up, if k < i + j, and down otherwise.
-- Assumes nothing.
use Rattle.std.specs.Prelude.{Bool, ℕ, ◌+◌, ◌<◌, ◌≤◌}
use Rattle.semantics.specs.Region.{PricedRegion, top}
use Rattle.semantics.proofs.Bounds.Reset.{ResetTo}

-- What holds of the groups that are down at corner j, and of those that are up.
pub record Sides (k j : ℕ) (Down Up : ℕ → Type 0) : Type 0 where
  pub down : (i : ℕ) → i ≤ k → i + j ≤ k → Down i
  pub up : (i : ℕ) → i ≤ k → k < i + j → Up i

-- Resets keep the sides of the groups that are left.
pub sides-resets :
    (gone : ℕ → Bool) (r s : PricedRegion) (corner : ℕ → ℕ) (d : ResetTo gone r s corner) (j : ℕ) → j ≤ top r → (Down Up : ℕ → Type 0)
    → Sides (top r) j Down Up → Sides (top s) (corner j) (λ i. Down (d.old i)) (λ i. Up (d.old i))
sides-resets gone r s corner d j h Down Up p = record {
  down = λ i l k. p.down (d.old i) (d.bounded i l) (d.down i j l h k);
  up = λ i l k. p.up (d.old i) (d.bounded i l) (d.up i j l h k);
}

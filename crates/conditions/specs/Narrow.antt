-- What one condition more does to windows.
-- Assumes nothing.
use Rattle.std.specs.Prelude.{◌≡◌, ◌≢◌, List, ◌∷◌, ℕ, max, min}
use Rattle.std.proofs.Common.{eq-eqb, ne_eqb}
use Rattle.semantics.specs.Condition.{Condition}
use Rattle.semantics.specs.Regions.Windows.{lowest, above}
use Rattle.conditions.specs.Windows.{low_of, high_of}

-- One condition more narrows the window of its timer, and no other.
module _ (c : Condition) (cs : List Condition) (x : ℕ) where
  pub low-own : c.timer ≡ x → low_of (c ∷ cs) x ≡ max (lowest c.comparison c.value) (low_of cs x)
  low-own e = rw (eq-eqb c.timer x e)

  pub high-own : c.timer ≡ x → high_of (c ∷ cs) x ≡ min (above c.comparison c.value) (high_of cs x)
  high-own e = rw (eq-eqb c.timer x e)

  pub low-other : c.timer ≢ x → low_of (c ∷ cs) x ≡ low_of cs x
  low-other n = rw (ne_eqb c.timer x n)

  pub high-other : c.timer ≢ x → high_of (c ∷ cs) x ≡ high_of cs x
  high-other n = rw (ne_eqb c.timer x n)

-- The order of routes: document 01, "Among chains that end in the goal with a corner at the least charge, the route is one with fewest steps;
-- among those the first in byte order."
-- Assumes nothing.
use Rattle.std.specs.Prelude.{◌≡◌, Bool, true, false, cond, ◌⊎◌, List, [], ◌∷◌, ℕ, ◌≤◌, ◌<◌, ltb, eqb, length}

-- A cost: a charge and a number of steps.
pub record Cost : Type 0 where
  pub charge : ℕ
  pub steps : ℕ

abbrev pub cost : ℕ → ℕ → Cost
cost charge steps = record { charge = charge; steps = steps }

infix 50 ◌≼◌
infix 50 ◌≺◌
infix 50 ◌⊑◌
-- Costs are compared by charge, then by steps. a is at most b:
abbrev pub ◌≼◌ : Cost → Cost → Type 0
◌≼◌ a b = (a.charge < b.charge) ⊎ ((a.charge ≡ b.charge) × (a.steps ≤ b.steps))

-- a is less than b:
abbrev pub ◌≺◌ : Cost → Cost → Type 0
◌≺◌ a b = (a.charge < b.charge) ⊎ ((a.charge ≡ b.charge) × (a.steps < b.steps))

-- The test of it.
abbrev pub is_less : Cost → Cost → Bool
is_less a b = cond (ltb a.charge b.charge) true (cond (eqb a.charge b.charge) (ltb a.steps b.steps) false)

-- Byte order: js comes no later than ks. Lists go by the first byte in which they differ, and a list before those that go on from it.
abbrev pub ◌⊑◌ : List ℕ → List ℕ → Type 0
◌⊑◌ [] ks = Unit {0}
◌⊑◌ (j ∷ js) [] = ⊥
◌⊑◌ (j ∷ js) (k ∷ ks) = (j < k) ⊎ ((j ≡ k) × (js ⊑ ks))

-- The test that js comes before ks, of lists of the same length.
abbrev pub earlier : List ℕ → List ℕ → Bool
earlier [] ks = false
earlier (j ∷ js) [] = false
earlier (j ∷ js) (k ∷ ks) = cond (ltb j k) true (cond (eqb j k) (earlier js ks) false)

-- The first of the good lists, in byte order.
pub record First (Good : List ℕ → Type 0) (bytes : List ℕ) : Type 0 where
  pub good : Good bytes
  pub first : (ks : List ℕ) → Good ks → bytes ⊑ ks

-- The best of all that comes, where Comes ks C says that the bytes ks come into the goal at the charge C: c is the least cost of all that do,
-- and the bytes are the first of those that do at this cost.
pub record Best (Comes : List ℕ → ℕ → Type 0) (c : Cost) (bytes : List ℕ) : Type 0 where
  pub least : (ks : List ℕ) (C : ℕ) → Comes ks C → c ≼ cost C (length ks)
  pub first : First (λ ks. Comes ks c.charge × (length ks ≡ c.steps)) bytes

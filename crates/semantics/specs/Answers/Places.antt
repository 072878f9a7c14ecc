-- Places whose corners are nodes, and how many corners they have.
-- Assumes nothing.
use Rattle.std.specs.Prelude.{◌≡◌, ◌↔◌, List, [], ◌∷◌, ℕ, zero, suc, ◌<◌, ◌≤◌, length}
use Rattle.std.proofs.Math.Path.{refl}
use Rattle.std.proofs.Common.{arith}
use Rattle.std.proofs.Math.ListN.{get_or}
use Rattle.semantics.specs.Automaton.{Automaton}
use Rattle.semantics.specs.Region.{PricedRegion, WellFormed, top}
use Rattle.semantics.specs.Nodes.Node.{IsCell}
use Rattle.semantics.specs.Chain.{Place}
use Rattle.semantics.specs.Graph.CornerGraph.{highest}
use Rattle.semantics.specs.Regions.Count.{count-place}
use Rattle.semantics.specs.Regions.Lengths.{prices-top}

-- A place whose corners are nodes: a well-formed region of a cell, in a mode. Its region need not meet the mode's conditions.
pub record IsPlace (a : Automaton) (p : Place) : Type 0 where
  pub well-formed : WellFormed p.region
  pub cell : IsCell a.ceilings p.region.whole
  pub in-modes : p.mode < length a.modes

-- A corner is one of the k + 1.
pub corner-top : (r : PricedRegion) → WellFormed r → (j : ℕ) → (j < length r.prices) ↔ (j ≤ top r)
corner-top r w j = (λ h. omega (arith, prices-top r w.priced), λ h. omega (arith, prices-top r w.priced))

-- The highest group: none has a higher number, and each bound of the numbers is above it.
highest-bound : (gs : List ℕ) (i : ℕ) → get_or gs i 0 ≤ highest gs
highest-bound [] i = omega arith
highest-bound (g ∷ gs) zero = omega arith
highest-bound (g ∷ gs) (suc i) = omega (arith, highest-bound gs i)

highest-below : (gs : List ℕ) (m : ℕ) → 0 < m → ((i : ℕ) → get_or gs i 0 < m) → highest gs < m
highest-below [] m pos h = pos
highest-below (g ∷ gs) m pos h = omega (arith, h 0, highest-below gs m pos (λ i. h (suc i)))

-- A well-formed region has k + 1 prices.
pub highest-prices : (r : PricedRegion) → WellFormed r → suc (highest r.group) ≡ length r.prices
highest-prices r w = go (length r.prices) refl
  where
    go : (n : ℕ) → length r.prices ≡ n → suc (highest r.group) ≡ length r.prices
    go zero e = absurd (omega (arith, w.priced))
    go (suc zero) e = omega (arith, highest-below r.group (length r.prices) w.priced w.below)
    go (suc (suc n)) e =
        let o = count-place (suc n) r.group (w.full (suc n) (omega arith) (omega arith)) in
        omega (arith, o.2, highest-bound r.group o.0, highest-below r.group (length r.prices) w.priced w.below)

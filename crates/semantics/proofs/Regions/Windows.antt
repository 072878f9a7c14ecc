-- Conditions as windows: in half minutes a timer of a region stands at one place, and the conditions on it are a lowest place and one that is
-- not reached.
-- Assumes nothing.
use Rattle.std.specs.Prelude.{◌≡◌, true, ◌↔◌, ℕ, ◌+◌, ◌≤◌, ◌<◌, get_or}
use Rattle.std.proofs.Common.{arith}
use Rattle.semantics.specs.Condition.{Comparison, less, at_most, equal, at_least, greater, Compares, Condition}
use Rattle.semantics.specs.Region.{PricedRegion, meets}
use Rattle.semantics.proofs.Regions.Meets.{test-middle}
use Rattle.semantics.specs.Regions.Windows.{half, free, lowest, above}

compares-window : (k : Comparison) (h v : ℕ) → h < free → Compares k h (v + v) ↔ ((lowest k v ≤ h) × (h < above k v))
compares-window less h v f = (λ c. omega arith, λ w. omega arith)
compares-window at_most h v f = (λ c. omega arith, λ w. omega arith)
compares-window equal h v f = (λ c. omega arith, λ w. omega arith)
compares-window at_least h v f = (λ c. omega arith, λ w. omega arith)
compares-window greater h v f = (λ c. omega arith, λ w. omega arith)

-- A region meets a condition if its timer stands in the condition's window.
pub meets-window :
    (c : Condition) (r : PricedRegion) → half r c.timer < free
    → (meets c r ≡ true) ↔ ((lowest c.comparison c.value ≤ half r c.timer) × (half r c.timer < above c.comparison c.value))
unfolding meets
meets-window c r f =
    let m = test-middle c.comparison c.value (get_or r.whole c.timer 0) (get_or r.group c.timer 0) in
    let w = compares-window c.comparison (half r c.timer) c.value f in
    (λ t. w.0 (m.0 t), λ i. m.1 (w.1 i))

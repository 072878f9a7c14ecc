-- The least cost of a mode's nodes, found node by node.
-- Assumes nothing.
use mathlib.Core.Path.{◌≡◌}
use mathlib.Core.Logic.{◌≢◌, ◌⊎◌, inl, inr}
use mathlib.Core.List.{List}
use Prim.Native.Nat.{ℕ, ◌+◌, ◌≤◌, ◌<◌, min}
use native.Mathlib.Decide.{ℕ_discrete, dec_lt}
use native.Mathlib.Omega.{arith}
use Rattle.semantics.specs.Graph.Path.{infinity, charge_at, steps_at}

-- A cost is no more than a node's.
abbrev pub NoMore : List ℕ → ℕ → ℕ → ℕ → Type 0
NoMore ws charge steps u = (charge < charge_at ws u) ⊎ ((charge ≡ charge_at ws u) × (steps ≤ steps_at ws u))

-- The least cost of the nodes from `first` to below v, or infinity if none of them is reached.
pub record Least (ws : List ℕ) (first v charge steps : ℕ) : Type 0 where
  pub most : charge ≤ infinity
  pub attained : charge ≢ infinity → (u : ℕ) × (first ≤ u) × (u < v) × (charge_at ws u ≡ charge) × (steps_at ws u ≡ steps)
  pub least : (u : ℕ) → first ≤ u → u < v → NoMore ws charge steps u

-- One node more.
module _ (ws : List ℕ) (first v charge steps : ℕ) (from : first ≤ v) (b : Least ws first v charge steps) where
  -- What is no more than the cost so far, nor than the node's, is no more than any.
  least-more :
      (charge' steps' : ℕ) → ((u : ℕ) → NoMore ws charge steps u → NoMore ws charge' steps' u) → NoMore ws charge' steps' v → (u : ℕ) → first ≤ u
      → u < v + 1 → NoMore ws charge' steps' u
  least-more charge' steps' before own u k l = at (ℕ_discrete u v)
    where
      at : Dec (u ≡ v) → NoMore ws charge' steps' u
      at (yes q) = rw q own
      at (no q) = before u (b.least u k (omega arith))

  -- It is cheaper than all before.
  pub least-cheaper : charge_at ws v < charge → Least ws first (v + 1) (charge_at ws v) (steps_at ws v)
  least-cheaper h = record {
    most = omega (arith, b.most);
    attained = λ _. (v, from, omega arith, omega arith, omega arith);
    least = least-more _ _ before (inr (omega arith, omega arith));
  }
    where
      before : (u : ℕ) → NoMore ws charge steps u → NoMore ws (charge_at ws v) (steps_at ws v) u
      before u (inl x) = inl (omega arith)
      before u (inr x) = inl (omega (arith, x.0))

  -- It is as cheap: the fewer steps count.
  pub least-same : charge_at ws v ≡ charge → Least ws first (v + 1) charge (min steps (steps_at ws v))
  least-same e = record {
    most = b.most;
    attained = λ n. at n (dec_lt (steps_at ws v) steps);
    least = least-more _ _ before (inr (omega arith, omega arith));
  }
    where
      at : charge ≢ infinity → Dec (steps_at ws v < steps)
          → (u : ℕ) × (first ≤ u) × (u < v + 1) × (charge_at ws u ≡ charge) × (steps_at ws u ≡ min steps (steps_at ws v))
      at n (yes l) = (v, from, omega arith, e, omega arith)
      at n (no l) = let r = b.attained n in (r.0, r.1, omega (arith, r.2), r.3, omega (arith, r.4))

      before : (u : ℕ) → NoMore ws charge steps u → NoMore ws charge (min steps (steps_at ws v)) u
      before u (inl x) = inl x
      before u (inr x) = inr (x.0, omega (arith, x.1))

  -- It is dearer.
  pub least_kept : charge < charge_at ws v → Least ws first (v + 1) charge steps
  least_kept h = record {
    most = b.most;
    attained = λ n. let r = b.attained n in (r.0, r.1, omega (arith, r.2), r.3, r.4);
    least = least-more _ _ (λ u x. x) (inl h);
  }

-- The turns of a walk: each goes a step further or leaves a node for good, so that the walk ends.
-- Assumes nothing.
use mathlib.Core.Path.{◌≡◌}
use mathlib.Core.Bool.{Bool, true, false, cond}
use mathlib.Core.Logic.{◌≢◌}
use mathlib.Core.List.{List}
use Prim.Native.Nat.{ℕ, zero, suc, ◌+◌, ◌*◌, ◌-◌, ◌≤◌, ◌<◌}
use native.Mathlib.Nat.{mul-suc, mul-le-mul_left}
use native.Mathlib.Decide.{ℕ_discrete}
use native.Mathlib.Omega.{arith}
use borrow.Author.Tests.{eq-eqb, ne_eqb}
use lib.Dec.{eqb}
use Rattle.semantics.specs.Graph.Path.{infinity, charge_at}

-- How many of the nodes below n are reached.
abbrev one : List ℕ → ℕ → ℕ
one ws v = cond (eqb (charge_at ws v) infinity) 0 1

unfoldable pub live : ℕ → List ℕ → ℕ
live zero ws = 0
live (suc n) ws = one ws n + live n ws

one-most : (ws : List ℕ) (v : ℕ) → one ws v ≤ 1
one-most ws v = go (eqb (charge_at ws v) infinity)
  where
    go : (q : Bool) → cond q 0 1 ≤ 1
    go true = omega arith
    go false = omega arith

one_none : (ws : List ℕ) (v : ℕ) → charge_at ws v ≡ infinity → one ws v ≡ 0
one_none ws v e = rw (eq-eqb (charge_at ws v) infinity e)

one-some : (ws : List ℕ) (v : ℕ) → charge_at ws v ≢ infinity → one ws v ≡ 1
one-some ws v e = rw (ne_eqb (charge_at ws v) infinity e)

-- What is unreached stays so.
module _ (ws ws' : List ℕ) (stays : (v : ℕ) → charge_at ws v ≡ infinity → charge_at ws' v ≡ infinity) where
  one_less : (v : ℕ) → one ws' v ≤ one ws v
  one_less v = go (ℕ_discrete (charge_at ws v) infinity)
    where
      go : Dec (charge_at ws v ≡ infinity) → one ws' v ≤ one ws v
      go (yes e) = omega (arith, one_none ws' v (stays v e))
      go (no e) = omega (arith, one-most ws' v, one-some ws v e)

  live-less : (n : ℕ) → live n ws' ≤ live n ws
  unfolding live
  live-less zero = omega arith
  live-less (suc n) = omega (arith, one_less n, live-less n)

  live-fewer : (n v : ℕ) → v < n → charge_at ws v ≢ infinity → charge_at ws' v ≡ infinity → live n ws' < live n ws
  unfolding live
  live-fewer zero v b e f = absurd (omega arith)
  live-fewer (suc n) v b e f = go (ℕ_discrete v n) (live-fewer n v)
    where
      go :
          Dec (v ≡ n) → (v < n → charge_at ws v ≢ infinity → charge_at ws' v ≡ infinity → live n ws' < live n ws)
          → one ws' n + live n ws' < one ws n + live n ws
      go (yes o) rest = omega (arith, one-some ws n (rw o at e), one_none ws' n (rw o at f), live-less n)
      go (no o) rest = omega (arith, one_less n, rest (omega arith) e f)

-- A bound on the turns to come, where at most so many steps are taken.
unfoldable pub turns : ℕ → ℕ → List ℕ → ℕ → ℕ
turns nodes most ws steps = (most + 1) * live nodes ws + (most - steps)

module _ (nodes most : ℕ) (ws ws' : List ℕ) (stays : (v : ℕ) → charge_at ws v ≡ infinity → charge_at ws' v ≡ infinity) (steps : ℕ) where
  -- A step further is one turn less.
  pub turns-advance : steps < most → turns nodes most ws' (steps + 1) < turns nodes most ws steps
  unfolding turns
  turns-advance h = omega (arith, mul-le-mul_left (most + 1) (live-less ws ws' stays nodes))

  -- And so is a step back, where a node is left.
  pub turns-backtrack :
      (v : ℕ) → v < nodes → charge_at ws v ≢ infinity → charge_at ws' v ≡ infinity
      → turns nodes most ws' (steps - 1) < turns nodes most ws steps
  unfolding turns
  turns-backtrack v b e f =
      let less : (most + 1) * suc (live nodes ws') ≤ (most + 1) * live nodes ws =
      mul-le-mul_left (most + 1) (live-fewer ws ws' stays nodes v b e f) in
      omega (arith, less, mul-suc (most + 1) (live nodes ws'))

-- A cost is taken or passed over.
-- Assumes nothing.
use mathlib.Core.Path.{◌≡◌, refl}
use mathlib.Core.Logic.{◌⊎◌, inl, inr}
use mathlib.Core.List.{List}
use Prim.Native.Nat.{ℕ, ◌%◌, ◌≤◌, ◌<◌}
use native.Mathlib.Omega.{arith}
use Rattle.semantics.specs.Order.{cost, ◌≼◌, ◌≺◌}
use Rattle.semantics.specs.Graph.Path.{charge_at, steps_at}
use Rattle.semantics.specs.Paths.Cost.{not-both}
use Rattle.queue.specs.Queue.{cost_in, LowerDone, RelaxReady, RelaxDone}
use Rattle.queue.specs.Laws.Lows.{lows-charge, lows-steps}

module _ (nodes v charge steps : ℕ) (ws : List ℕ) (ready : RelaxReady nodes v charge steps ws) where
  -- The node's cost, as its words have it.
  pub no_less :
      (charge_at ws v < charge) ⊎ ((charge_at ws v ≡ charge) × (steps_at ws v % 65536 ≤ steps)) → cost_in nodes ws v ≼ cost charge steps
  no_less (inl h) = inl (omega (arith, lows-charge nodes ws v))
  no_less (inr h) = inr (omega (arith, h.0, lows-charge nodes ws v), omega (arith, h.1, lows-steps nodes ws v ready.there))

  pub is-less :
      (charge < charge_at ws v) ⊎ ((charge ≡ charge_at ws v) × (steps < steps_at ws v % 65536)) → cost charge steps ≺ cost_in nodes ws v
  is-less (inl h) = inl (omega (arith, lows-charge nodes ws v))
  is-less (inr h) = inr (omega (arith, h.0, lows-charge nodes ws v), omega (arith, h.1, lows-steps nodes ws v ready.there))

  pub relax-passed : cost_in nodes ws v ≼ cost charge steps → RelaxDone nodes v charge steps ws ws
  relax-passed h =
      record { taken = λ l. absurd (not-both (cost_in nodes ws v) (cost charge steps) h l); passed = λ k. refl }

  pub relax-taken :
      (ws' : List ℕ) → cost charge steps ≺ cost_in nodes ws v → LowerDone nodes v charge steps ws ws' → RelaxDone nodes v charge steps ws ws'
  relax-taken ws' l d =
      record { taken = λ k. d; passed = λ h. absurd (not-both (cost_in nodes ws v) (cost charge steps) h l) }

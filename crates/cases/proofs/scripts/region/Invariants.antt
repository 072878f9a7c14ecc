-- `cases::scripts::region` meets its contract. The prices have room for the steps that are left.
-- Assumes nothing.
use Prim.Native.Nat.{◌-◌, ◌*◌}
use Rattle.regions.specs.Held.{view, Valid, PriceRoom}
use Rattle.cases.specs.Kept.{most_amount}
use Rattle.cases.proofs.scripts.region.Given as goal

abbrev pub invariant-loop-step : goal.invariant-loop-step
invariant-loop-step g l = Valid l.region × PriceRoom (most_amount * (1023 - l.step-index)) (view l.region)

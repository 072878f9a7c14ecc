-- `regions::Region::reset_all` meets its contract.
-- Assumes nothing.
use native.Mathlib.Omega.{arith}
use Rattle.regions.proofs.Resets.{none-reset, named-reset, unnamed-kept, all-reset}
use Rattle.regions.proofs.Region.reset_all.Goals as goal

pub loop-timer-init : goal.loop-timer-init
loop-timer-init c = none-reset _ _ c.requires

pub reset-region-requires : goal.reset-region-requires
reset-region-requires c = (c.loop-timer.invariant.valid, omega (arith, c.loop-timer.auto.timer))

pub loop-timer-preserved-then-resets-timer-eq1 : goal.loop-timer-preserved-then-resets-timer-eq1
loop-timer-preserved-then-resets-timer-eq1 c =
    named-reset _ _ _ _ c.loop-timer.invariant _ c.loop-timer-test.true c.if-resets-timer-eq1.true c.reset-region.ensures

pub loop-timer-preserved : goal.loop-timer-preserved
loop-timer-preserved c = unnamed-kept _ _ _ _ c.loop-timer.invariant c.loop-timer-test.true c.if-resets-timer-eq1.false

pub returns : goal.returns
returns c = all-reset _ _ _ _ c.loop-timer.invariant (omega arith)

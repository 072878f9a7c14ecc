-- `cases::chains::follow` meets its contract.
-- Assumes nothing.
use Rattle.std.specs.Prelude.{IfSome}
use Prim.Native.Nat.{◌-◌}
use Rattle.cases.specs.Kept.{OnChain}
use Rattle.cases.proofs.chains.follow.Given as goal

abbrev pub invariant-loop-steps : goal.invariant-loop-steps
invariant-loop-steps g l = IfSome l.next (λ place. OnChain l.table.bytes (1024 - l.steps) place.mode place.region)

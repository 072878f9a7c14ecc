-- `regions::Region::reset_all` meets its contract.
-- Assumes nothing.
use Rattle.regions.specs.Held.{view}
use Rattle.regions.proofs.Resets.{ResetSome}
use Rattle.regions.proofs.Region.reset_all.Given as goal

abbrev pub invariant-loop-timer : goal.invariant-loop-timer
invariant-loop-timer l = ResetSome l.resets (view l.initial.region) l.timer l.region

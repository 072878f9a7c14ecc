-- `regions::Region::within` meets its contract. The ceilings from the present timer on decide.
-- Assumes nothing.
use mathlib.Core.Path.{◌≡◌}
use Prim.Native.Nat.{◌≤◌}
use Rattle.regions.proofs.Ceilings.{left}
use Rattle.regions.proofs.Region.within.Given as goal

abbrev pub invariant-loop-timer : goal.invariant-loop-timer
invariant-loop-timer l =
    (l.timer ≤ l.self.timers)
    × (left l.self.timers l.timer l.ceilings l.self.whole l.self.group ≡ left l.self.timers 0 l.ceilings l.self.whole l.self.group)

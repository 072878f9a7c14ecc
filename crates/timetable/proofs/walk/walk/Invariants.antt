-- `timetable::walk::walk` meets its contract. The loop takes a pair or takes one back, and has written the timetable where it ends.
-- Assumes nothing.
use Prim.Native.Nat.{◌*◌}
use lib.ListN.{length, take}
use Rattle.route.proofs.Live.{turns}
use Rattle.timetable.specs.Walk.{WalkReady}
use Rattle.timetable.proofs.Walking.{Walking}
use Rattle.timetable.proofs.walk.walk.Given as goal

abbrev pub invariant-loop-states : goal.invariant-loop-states
invariant-loop-states l =
    (w : WalkReady l.minutes.table.now.bytes l.initial.words l.initial.route)
    → Walking l.minutes.states w l.words l.route l.stand

abbrev pub decreases-loop-states : goal.decreases-loop-states
decreases-loop-states l =
    turns l.minutes.states.count (length l.initial.route) (take (2 * l.minutes.states.count) l.words) l.stand.depth

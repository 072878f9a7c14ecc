-- `timetable::walk::next_pair` meets its contract. The loop is at a label, and no edge with a label below it is tight.
-- Assumes nothing.
use Prim.Native.Nat.{◌-◌}
use Rattle.timetable.proofs.NextPairs.{NoneBelow}
use Rattle.timetable.proofs.walk.next_pair.Given as goal

abbrev pub invariant-loop-label : goal.invariant-loop-label
invariant-loop-label l =
    NoneBelow l.minutes.table.now.bytes l.minutes.states l.from l.words l.initial.label l.label

abbrev pub decreases-loop-label : goal.decreases-loop-label
decreases-loop-label l = 1024 - l.label

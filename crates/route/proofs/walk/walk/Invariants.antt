-- `route::walk::walk` meets its contract. The loop goes a step further or takes one back, and has written the route where it ends.
-- Assumes nothing.
use lib.ListN.{length}
use Rattle.route.specs.Walk.{WalkReady}
use Rattle.route.proofs.Live.{turns}
use Rattle.route.proofs.Trailing.{Walking}
use Rattle.route.proofs.walk.walk.Given as goal

abbrev pub invariant-loop-stand : goal.invariant-loop-stand
invariant-loop-stand l =
    (w : WalkReady l.corners.table.now.bytes l.corners.rules.now l.corners.space l.initial.words l.initial.route)
    → Walking w l.words l.route l.stand

abbrev pub decreases-loop-stand : goal.decreases-loop-stand
decreases-loop-stand l = turns l.corners.space.nodes (length l.initial.route) l.words l.stand.steps

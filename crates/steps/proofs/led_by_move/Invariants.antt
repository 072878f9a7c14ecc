-- `steps::led_by_move` meets its contract. The loop has the corners to which those below j lead.
-- Assumes nothing.
use Rattle.steps.specs.Leading.{IsLed, MoveEdges}
use Rattle.steps.proofs.led_by_move.Given as goal

abbrev pub invariant-loop-j : goal.invariant-loop-j
invariant-loop-j l = IsLed l.stand l.words l.to (MoveEdges l.map l.price l.j) l.next

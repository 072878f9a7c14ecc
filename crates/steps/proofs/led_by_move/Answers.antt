-- `steps::led_by_move` meets its contract. The loop has the corners to which those below j lead.
-- Assumes nothing.
use Rattle.steps.proofs.Leads.{moves_more}
use Rattle.steps.proofs.led_by_move.Goals as goal

pub loop-j-preserved : goal.loop-j-preserved
loop-j-preserved c = moves_more _ _ c.corner_of.ensures c.loop-j.invariant c.lead-next.ensures

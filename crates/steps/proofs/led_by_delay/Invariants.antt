-- `steps::led_by_delay` meets its contract. The loop has the corners below i to which the delay leads.
-- Assumes nothing.
use Rattle.steps.specs.Leading.{IsLed}
use Rattle.steps.proofs.Leads.{DelaysBelow}
use Rattle.steps.proofs.led_by_delay.Given as goal

abbrev pub invariant-loop-i : goal.invariant-loop-i
invariant-loop-i l = IsLed l.stand l.words l.to (DelaysBelow l.prices l.top l.rate l.i) l.next

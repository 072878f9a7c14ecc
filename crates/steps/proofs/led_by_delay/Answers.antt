-- `steps::led_by_delay` meets its contract. The loop has the corners below i to which the delay leads.
-- Assumes nothing.
use native.Mathlib.Omega.{arith}
use Rattle.regions.specs.Held.{view}
use Rattle.steps.proofs.Leads.{delays-more, delays-all}
use Rattle.steps.proofs.led_by_delay.Goals as goal

pub loop-i-preserved : goal.loop-i-preserved
loop-i-preserved c =
    delays-more c.prices-prices.result c.args.top c.args.rate c.delay_weight-weight.ensures c.loop-i.invariant c.lead-next.ensures

pub returns : goal.returns
returns c =
    delays-all c.prices-prices.result c.args.top c.args.rate (view c.args.delayed) c.prices-prices.ensures
    (omega (arith, c.loop-i-test.false, c.top-corners.ensures)) c.loop-i.invariant

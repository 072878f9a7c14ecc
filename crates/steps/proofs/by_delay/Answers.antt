-- `steps::by_delay` meets its contract.
-- Assumes nothing.
use native.Mathlib.Omega.{arith}
use Rattle.steps.proofs.Trying.{one-silent, one_tried}
use Rattle.space.proofs.Delayed.{delay-ready, delayed-ready}
use Rattle.steps.proofs.Delaying.{halves-asked, delay-shut, led-asked, tried-delay}
use Rattle.steps.proofs.by_delay.Goals as goal

pub delay-delayed-requires : goal.delay-delayed-requires
delay-delayed-requires c =
    delay-ready c.args.corners.now.setting c.requires.here.corner

pub halves-requires : goal.halves-requires
halves-requires c =
    halves-asked c.requires c.args.corners.now.setting c.delay-delayed.result c.delay-delayed.ensures

pub returns-then-not-all_inside : goal.returns-then-not-all_inside
returns-then-not-all_inside c =
    one-silent
    (delay-shut c.requires c.args.corners.now.setting c.delay-delayed.result c.delay-delayed.ensures c.halves.ensures c.all_inside.ensures
    (c.if-not-all_inside.true))

pub node_of-to-requires : goal.node_of-to-requires
node_of-to-requires c =
    delayed-ready c.args.corners.now.setting c.requires.here.corner c.delay-delayed.result c.delay-delayed.ensures

pub led_by_delay-requires : goal.led_by_delay-requires
led_by_delay-requires c =
    led-asked c.requires c.args.corners.now.setting c.delay-delayed.result c.delay-delayed.ensures c.halves.ensures c.all_inside.ensures
    (c.if-not-all_inside.false) c.node_of-to.result c.node_of-to.ensures c.rate-rate.result c.rate-rate.ensures

pub returns : goal.returns
returns c =
    one_tried (omega arith) c.if-stand-gt-DELAY.false
    (tried-delay c.requires c.args.corners.now.setting c.delay-delayed.result c.delay-delayed.ensures c.halves.ensures c.all_inside.ensures
    (c.if-not-all_inside.false) c.node_of-to.result c.node_of-to.ensures c.rate-rate.result c.rate-rate.ensures
    c.top.result c.top.ensures c.led_by_delay.ensures c.found.ensures)

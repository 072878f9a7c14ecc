-- `steps::by_linger` meets its contract.
-- Assumes nothing.
use native.Mathlib.Omega.{arith}
use Rattle.steps.proofs.Standing.{corners-ready}
use Rattle.steps.proofs.Trying.{one-silent, one_tried}
use Rattle.space.proofs.Delayed.{delay-ready, delayed-valid, delayed-fewer}
use Rattle.steps.proofs.LeadingWaits.{linger-idle, linger-ready, linger-tried}
use Rattle.steps.proofs.by_linger.Goals as goal

pub delay-delayed-requires : goal.delay-delayed-requires
delay-delayed-requires c =
    let w = c.requires in
    delay-ready w.ready.setting w.here.corner

pub top-requires : goal.top-requires
top-requires c =
    let w = c.requires in
    delayed-valid w.ready.setting w.here.corner c.delay-delayed.result c.delay-delayed.ensures

pub returns-then-last-top : goal.returns-then-last-top
returns-then-last-top c =
    let w = c.requires in
    let fewer = delayed-fewer w.ready.setting w.here.corner c.delay-delayed.result c.delay-delayed.ensures in
    one-silent (linger-idle w (λ e. omega (arith, fewer.0 e, c.if-last-top.true, c.top.ensures, c.top-last.ensures)))

pub lead-requires : goal.lead-requires
lead-requires c =
    let w = c.requires in
    (corners-ready w, linger-ready w c.top-last.result c.rate-rate.result c.top-last.ensures c.rate-rate.ensures)

pub returns : goal.returns
returns c =
    let w = c.requires in
    let fewer = delayed-fewer w.ready.setting w.here.corner c.delay-delayed.result c.delay-delayed.ensures in
    let empty = fewer.1 (omega (arith, c.if-last-top.false, c.top.ensures, c.top-last.ensures)) in
    one_tried (omega arith) c.if-stand-gt-LINGER.false
    (linger-tried w empty c.top-last.result c.rate-rate.result c.lead.result c.top-last.ensures c.rate-rate.ensures c.lead.ensures c.found.ensures)

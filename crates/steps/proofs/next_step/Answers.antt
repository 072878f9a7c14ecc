-- `steps::next_step` meets its contract.
-- Assumes nothing.
use mathlib.Core.Path.{sym, ◌∙◌}
use Rattle.space.specs.Laws.NodeRegion.{region-ready}
use Rattle.steps.proofs.Standing.{standing}
use Rattle.steps.proofs.Trying.{next-move, next-delay, next-linger}
use Rattle.steps.proofs.next_step.Goals as goal

pub region_at-at-requires : goal.region_at-at-requires
region_at-at-requires c =
    region-ready c.requires.setting c.requires.there

pub by_move-moved-requires : goal.by_move-moved-requires
by_move-moved-requires c =
    standing c.requires c.region_at-at.result c.region_at-at.ensures

pub returns-then-is_some : goal.returns-then-is_some
returns-then-is_some c = next-move c.requires.below c.by_move-moved.ensures (sym c.is_some.ensures ∙ c.if-is_some.true)

pub by_delay-delayed-requires : goal.by_delay-delayed-requires
by_delay-delayed-requires c =
    standing c.requires c.region_at-at.result c.region_at-at.ensures

pub returns-then-is_some-2 : goal.returns-then-is_some-2
returns-then-is_some-2 c =
    next-delay c.requires.below c.by_move-moved.ensures (sym c.is_some.ensures ∙ c.if-is_some.false) c.by_delay-delayed.ensures
    (sym c.is_some-2.ensures ∙ c.if-is_some-2.true)

pub by_linger-requires : goal.by_linger-requires
by_linger-requires c =
    standing c.requires c.region_at-at.result c.region_at-at.ensures

pub returns : goal.returns
returns c =
    next-linger c.requires.below c.by_move-moved.ensures (sym c.is_some.ensures ∙ c.if-is_some.false) c.by_delay-delayed.ensures
    (sym c.is_some-2.ensures ∙ c.if-is_some-2.false) c.by_linger.ensures

-- `cases::operations::delayed` meets its contract.
-- Assumes nothing.
use mathlib.Core.Path.{sym, ◌∙◌}
use lib.Dec.{lit<}
use Rattle.regions.specs.Held.{most_timers, view}
use Rattle.regions.specs.Laws.Chain.{delay-gives}
use Rattle.regions.specs.Laws.Room.{less-room, delay-price-room, within-whole-room}
use Rattle.cases.specs.Kept.{most_amount}
use Rattle.cases.proofs.Steps.{kept, ceilings-many, ceilings-below}
use Rattle.cases.proofs.operations.delayed.Goals as goal

pub delay-requires : goal.delay-requires
delay-requires c =
    let s = c.args.region in
    let v = c.requires.0 in (
      v,
      less-room (view s) c.args.rate most_amount c.requires.2 c.requires.1,
      within-whole-room (view s) v.well_formed _ (ceilings-many s v 15) (ceilings-below 255 15 (lit< tt) s.timers most_timers)
          (sym c.within.ensures ∙ c.if-within.true),
    )

pub returns-then-within : goal.returns-then-within
returns-then-within c =
    let s = c.args.region in
    let rate = c.args.rate in
    kept s c.delay.result rate c.requires.2 (delay-gives s _ c.requires.0 rate c.delay.ensures) (delay-price-room (view s) rate)

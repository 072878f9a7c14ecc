-- `regions::Region::delay` meets its contract.
-- Assumes nothing.
use mathlib.Core.Path.{ap, sym, ◌∙◌}
use Rattle.regions.specs.Held.{pack, view}
use Rattle.regions.proofs.Methods.{delay-arrives, delay-leaves}
use Rattle.regions.proofs.Region.delay.Goals as goal

pub arrive-requires : goal.arrive-requires
arrive-requires c = (c.requires.0, c.requires.2, sym c.no_zero.ensures ∙ c.if-no_zero.true)

pub leave-requires : goal.leave-requires
leave-requires c = (c.requires.0, c.requires.1, sym c.no_zero.ensures ∙ c.if-no_zero.false)

pub returns-then-no_zero : goal.returns-then-no_zero
returns-then-no_zero c =
    let e = sym c.no_zero.ensures ∙ c.if-no_zero.true in
    c.arrive.ensures ∙ ap pack (sym (delay-arrives (view c.args.self) c.args.rate e))

pub returns-else-no_zero : goal.returns-else-no_zero
returns-else-no_zero c =
    let e = sym c.no_zero.ensures ∙ c.if-no_zero.false in
    c.leave.ensures ∙ ap pack (sym (delay-leaves (view c.args.self) c.args.rate e))

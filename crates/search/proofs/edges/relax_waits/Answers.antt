-- `relax_waits` meets its contract.
-- Assumes nothing.
use mathlib.Core.Path.{sym, ◌∙◌}
use mathlib.Core.Bool.{true≢false}
use native.Mathlib.Omega.{arith}
use Rattle.space.specs.Space.{place_at}
use Rattle.space.proofs.Settings.{place-mode}
use Rattle.space.proofs.Delayed.{delay-ready, delayed-valid, delayed-ready, halves-ready}
use Rattle.search.proofs.Waits.{Looked, waits-ready, waits-unmet, delays-ready, waits-done}
use Rattle.search.proofs.edges.relax_waits.Goals.{After-relax_linger-arg-1}
use Rattle.search.proofs.edges.relax_waits.Goals as goal

-- What was found before linger,
looked : (c : After-relax_linger-arg-1) → Looked c.args.corners.now.table.now.bytes c.args.from.at c.delay-delayed.result c.top.result
    c.top-2.result c.rate-rate.result
looked c = record {
  is = c.delay-delayed.ensures;
  new_is = c.top.ensures;
  old-is = c.top-2.ensures;
  rate-is = c.rate-rate.ensures;
}

pub delay-delayed-requires : goal.delay-delayed-requires
delay-delayed-requires c =
    delay-ready c.requires.0.setting c.requires.0.corner

pub top-requires : goal.top-requires
top-requires c =
    delayed-valid c.requires.0.setting c.requires.0.corner c.delay-delayed.result c.delay-delayed.ensures

pub relax_linger-requires : goal.relax_linger-requires
relax_linger-requires c = waits-ready c.requires.0 c.requires.1 (looked c)

pub halves-requires : goal.halves-requires
halves-requires c =
    halves-ready c.requires.0.setting c.requires.0.corner _ (looked (goal.at.halves-requires c).After-relax_linger-arg-1).is

pub all_inside-requires : goal.all_inside-requires
all_inside-requires c =
    let few = place-mode c.args.corners.now.table.now.bytes c.requires.0.setting.is-table (place_at c.args.from.at) c.requires.0.corner.place in
    omega (arith, few)

pub returns-then-not-all_inside : goal.returns-then-not-all_inside
returns-then-not-all_inside c =
    waits-unmet c.requires.0 c.requires.1 (looked (goal.at.returns-then-not-all_inside c).After-relax_linger-arg-1) c.relax_linger.ensures
    c.halves.ensures (λ met. true≢false (sym (c.all_inside.ensures.1 met) ∙ c.if-not-all_inside.true))

pub node_of-to-requires : goal.node_of-to-requires
node_of-to-requires c =
    delayed-ready c.requires.0.setting c.requires.0.corner _ (looked (goal.at.node_of-to-requires c).After-relax_linger-arg-1).is

pub relax_delay-requires : goal.relax_delay-requires
relax_delay-requires c =
    delays-ready c.requires.0 c.requires.1 (looked (goal.at.relax_delay-requires c).After-relax_linger-arg-1) c.relax_linger.ensures
    c.halves.ensures (c.all_inside.ensures.0 (c.if-not-all_inside.false)) c.node_of-to.result c.node_of-to.ensures

pub returns : goal.returns
returns c =
    waits-done c.requires.0 c.requires.1
    (looked (goal.at.returns c).After-relax_linger-arg-1) c.relax_linger.ensures
    c.halves.ensures (c.all_inside.ensures.0 (c.if-not-all_inside.false)) c.node_of-to.result c.node_of-to.ensures
    c.relax_delay.ensures

-- `relax` meets its contract. Assumes nothing.
use mathlib.Core.Path.{sym, ◌∙◌}
use mathlib.Core.Logic.{inl, inr}
use native.Mathlib.Omega.{arith}
use Rattle.semantics.specs.Order.{cost, ◌≺◌}
use Rattle.queue.specs.Queue.{cost_in}
use Rattle.queue.proofs.Relaxing.{no_less, is-less, relax-passed, relax-taken}
use Rattle.queue.proofs.relax.Goals.{Joined-own-charge-2, then-own-charge-2+else-steps_of-steps, else-own-charge-2}
use Rattle.queue.proofs.relax.Goals as goal

-- Past the tests: the cost is less.
less : (c : Joined-own-charge-2) → cost c.args.charge c.args.steps ≺ cost_in c.args.nodes c.args.words.now c.args.node
less c =
    let a = c.args in
    let own = c.charge_of-own.ensures in
    is-less a.nodes a.node a.charge a.steps a.words.now c.requires
    (elim c.if-own-charge-2.branch [
      | then-own-charge-2+else-steps_of-steps w ↦ inr (sym w.if-own-charge-2.true ∙ own, omega (arith, w.steps_of.ensures, w.if-steps_of-steps.false))
      | else-own-charge-2 w ↦ inl (omega (arith, own, c.if-own-charge.false, w.if-own-charge-2.false))
    ])

pub returns-then-own-charge : goal.returns-then-own-charge
returns-then-own-charge c =
    let a = c.args in
    relax-passed a.nodes a.node a.charge a.steps a.words.now c.requires
    (no_less a.nodes a.node a.charge a.steps a.words.now c.requires
    (inl (omega (arith, c.if-own-charge.true, c.charge_of-own.ensures))))

pub returns-then-steps_of-steps : goal.returns-then-steps_of-steps
returns-then-steps_of-steps c =
    let a = c.args in
    relax-passed a.nodes a.node a.charge a.steps a.words.now c.requires
    (no_less a.nodes a.node a.charge a.steps a.words.now c.requires
    (inr (
      sym c.charge_of-own.ensures ∙ c.if-own-charge-2.true,
      omega (arith, c.if-steps_of-steps.true, c.steps_of.ensures),
    )))

pub lower-requires : goal.lower-requires
lower-requires c = record { relax = c.requires; less = less (goal.at.lower-requires c).Joined-own-charge-2 }

pub returns : goal.returns
returns c =
    let a = c.args in
    relax-taken a.nodes a.node a.charge a.steps a.words.now c.requires c.lower.new.words
    (less (goal.at.returns c).Joined-own-charge-2)
    c.lower.ensures

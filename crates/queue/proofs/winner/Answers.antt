-- `winner` meets its contract. Assumes nothing.
use mathlib.Core.Path.{◌∙◌, sym}
use native.Mathlib.Omega.{arith}
use Rattle.queue.proofs.Winning.{won-slot, won-unreached, won-pending, won-settled}
use Rattle.queue.proofs.winner.Goals as goal

pub returns-then-place-nodes : goal.returns-then-place-nodes
returns-then-place-nodes c =
    let a = c.args in
    c.slot.ensures ∙ won-slot a.nodes a.words.now c.requires.words a.settled a.place c.if-place-nodes.true

pub returns-then-charge_of : goal.returns-then-charge_of
returns-then-charge_of c =
    let a = c.args in
    won-unreached a.nodes a.words.now c.requires.words a.settled a.place c.if-place-nodes.false
    (sym c.charge_of.ensures ∙ c.if-charge_of.true)

pub returns-then-settled-key : goal.returns-then-settled-key
returns-then-settled-key c =
    let a = c.args in
    won-pending a.nodes a.words.now c.requires.words a.settled a.place c.if-place-nodes.false c.requires.high
    (λ e. c.if-charge_of.false (c.charge_of.ensures ∙ e))
    (omega (arith, c.if-settled-key.true, c.key.ensures))

pub returns-else-settled-key : goal.returns-else-settled-key
returns-else-settled-key c =
    let a = c.args in
    won-settled a.nodes a.words.now c.requires.words a.settled a.place c.if-place-nodes.false c.requires.high
    (omega (arith, c.if-settled-key.false, c.key.ensures))

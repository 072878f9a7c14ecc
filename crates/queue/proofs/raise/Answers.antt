-- `raise` meets its contract. The loop's invariant: the node has come up to this place. Assumes nothing.
use mathlib.Core.Path.{sym}
use native.Mathlib.Omega.{arith}
use Rattle.queue.proofs.GoingUp.{rising-up, rising-stop, rising-end}
use Rattle.queue.proofs.raise.Goals as goal

pub returns-then-ahead : goal.returns-then-ahead
returns-then-ahead c =
    let key = c.key-own in
    let loop = c.loop-place in
    let slot = c.slot in
    rising-stop c.args.nodes c.args.node c.args.words.now c.requires.1 loop.words loop.place (omega arith) loop.invariant
    key.result slot.result c.ahead.result key.ensures (sym slot.ensures) c.ahead.ensures
    c.if-ahead.true

pub loop-place-preserved : goal.loop-place-preserved
loop-place-preserved c =
    let key = c.key-own in
    let loop = c.loop-place in
    let slot = c.slot in
    let ahead = c.ahead in
    rw c.set_slot.ensures
    (rising-up c.args.nodes c.args.node c.args.words.now c.requires.1 loop.words loop.place (omega arith) loop.invariant
    key.result slot.result ahead.result key.ensures (sym slot.ensures) ahead.ensures
    c.if-ahead.false)

pub returns : goal.returns
returns c =
    let loop = c.loop-place in
    rising-end c.args.nodes c.args.node c.args.words.now c.requires.1 loop.words loop.place (omega arith) loop.invariant

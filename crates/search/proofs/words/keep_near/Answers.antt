-- `words::keep_near` meets its contract. The loop's invariant: the words of the nodes before this one are done, and all others are the same.
-- Assumes nothing.
use mathlib.Core.Path.{◌≡◌, sym}
use mathlib.Core.Bool.{cond}
use Prim.Native.Nat.{◌+◌, ◌*◌, ◌≤◌, ◌<◌}
use native.Mathlib.Omega.{arith}
use lib.ListN.{set, length-set}
use Rattle.semantics.specs.Graph.Path.{infinity}
use Rattle.search.proofs.Keeping.{Keeping, keeping_none, keeping-chosen, keeping_all}
use Rattle.search.proofs.words.keep_near.Goals.{then-near, else-near, then-near-2, else-near-2}
use Rattle.search.proofs.words.keep_near.Goals as goal

pub loop-v-init : goal.loop-v-init
loop-v-init c =
    (omega arith, c.requires.room, keeping_none c.args.nodes c.args.best c.args.words.now)

pub bounds-words-v-in-loop-v : goal.bounds-words-v-in-loop-v
bounds-words-v-in-loop-v c =
    let loop = c.loop-v in
    omega (arith, length-set loop.words (2 * loop.v) c.if-near.words)

pub loop-v-preserved : goal.loop-v-preserved
loop-v-preserved c =
    let n = c.args.nodes in
    let best = c.args.best in
    let ws = c.args.words.now in
    let us = c.loop-v.words in
    let v = c.loop-v.v in
    let there : v < n = c.loop-v-test.true in
    let most : c.charge_of-charge.result ≤ infinity = omega (arith, c.charge_of-charge.type_inv) in
    let charge : c.if-near.words ≡ cond c.is_near-near.result c.charge_of-charge.result infinity =
    elim c.if-near.branch [ then-near w ↦ rw w.if-near.true w.words-is | else-near w ↦ rw w.if-near.false w.words-is ] in
    let steps : c.if-near-2.words ≡ cond c.is_near-near.result c.steps_of-steps.result infinity =
    elim c.if-near-2.branch [ then-near-2 w ↦ rw w.if-near-2.true w.words-is | else-near-2 w ↦ rw w.if-near-2.false w.words-is ] in
    let next : Keeping n best (v + 1) ws (set (set us (2 * v) c.if-near.words) (2 * v + 1) c.if-near-2.words) =
    rw (charge, steps)
    (keeping-chosen n best v ws us c.requires.room there c.loop-v.invariant.2 c.charge_of-charge.result
    c.steps_of-steps.result c.charge_of-charge.ensures c.steps_of-steps.ensures c.is_near-near.result (sym c.is_near-near.ensures)) in
    (omega arith, omega (arith, next.kept, c.requires.room), next)

pub shape_of-words : goal.shape_of-words
shape_of-words c = c.loop-v.invariant.2.kept

pub returns : goal.returns
returns c =
    let end : c.loop-v.v ≡ c.args.nodes = omega arith in
    keeping_all c.args.nodes c.args.best c.args.words.now c.loop-v.words (rw end at c.loop-v.invariant.2)

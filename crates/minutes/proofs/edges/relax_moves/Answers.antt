-- `minutes::edges::relax_moves` meets its contract. The loop has relaxed the pairs with the moves before the next one, which is not passed over.
-- Assumes nothing.
use mathlib.Core.List.{List}
use Prim.Native.Nat.{ℕ, ◌+◌, ◌<◌}
use native.Mathlib.Omega.{arith}
use lib.ListN.{length}
use Rattle.table.specs.Held.{automaton_of}
use Rattle.rules.specs.Rules.{first_of, FirstFrom}
use Rattle.space.specs.Moves.{OpenNamed}
use Rattle.space.specs.Laws.Shares.{few-modes}
use Rattle.space.proofs.MovesFrom.{named-ready, named-open, after-ready, after-open}
use Rattle.states.specs.declared.States.{States}
use Rattle.minutes.specs.declared.waits.Source.{Source}
use Rattle.minutes.specs.Edges.{Setting, Waited, MovesReady}
use Rattle.minutes.proofs.Offers.{hand-mode}
use Rattle.minutes.proofs.MoveRelaxing.{TurnAt, turn-at, wait-again, turn-first, turn-all, turn-less, turn-next, move-sum, move-ready}
use Rattle.minutes.proofs.edges.relax_moves.Goals.{After-first, In-Some, After-next_move-next-in-Some}
use Rattle.minutes.proofs.edges.relax_moves.Goals as goal

-- The mode in hand is there.
mode-there : {t rs : List ℕ} {s : States} {x : Source} {ws : List ℕ} → Setting t rs s → MovesReady t s x ws → x.at.mode < length (automaton_of t).modes
mode-there z p = omega (arith, hand-mode z p.goal p.waited.hand, p.waited.stands.mode-is)

begins :
    (c : After-first)
    → FirstFrom (automaton_of c.args.minutes.now.table.now.bytes) c.args.from.at.mode 0 (first_of c.args.minutes.now.rules.now c.args.from.at.mode)
begins c = c.args.minutes.now.setting.is-rules.first _ (mode-there c.args.minutes.now.setting c.requires)

-- Move e, and the node in hand after the moves before it.
turn :
    (c : In-Some)
    → TurnAt c.args.minutes.now.table.now.bytes c.args.minutes.now.rules.now c.args.minutes.now.states c.args.from c.halves-halves.result
    c.in-Some.e c.args.words.now c.loop-next.words
turn c = turn-at c.loop-next.invariant c.in-Some.is

there : (c : In-Some) → c.in-Some.e < length (automaton_of c.args.minutes.now.table.now.bytes).moves
there c = (turn c).move.there (turn c).some

held :
    (c : In-Some)
    → Waited c.args.minutes.now.table.now.bytes c.args.minutes.now.states c.args.from c.loop-next.words c.requires.goal c.requires.node
    c.requires.minutes
held c = let p = c.requires in wait-again p.waited ((turn c).moves p.goal p.node p.minutes p.waited)

next :
    (c : After-next_move-next-in-Some)
    → OpenNamed c.args.minutes.now.table.now.bytes c.args.minutes.now.rules.now c.halves-halves.result c.args.from.at.mode (c.in-Some.e + 1)
    c.next_move-next-in-Some.result
next c =
    let k = turn-at c.loop-next.invariant c.in-Some.is in
    after-open c.args.minutes.now.setting.is-rules (k.move.there k.some) c.after.ensures (k.move.source k.some) c.next_move-next-in-Some.ensures

pub first-requires : goal.first-requires
first-requires c = omega (arith, mode-there c.args.minutes.now.setting c.requires, few-modes _ c.args.minutes.now.setting.is-table)

pub next_move-next-requires : goal.next_move-next-requires
next_move-next-requires c = named-ready c.args.minutes.now.setting.is-rules (begins c) c.first.ensures

pub loop-next-init : goal.loop-next-init
loop-next-init c =
    let rules = c.args.minutes.now.setting.is-rules in
    turn-first c.args.minutes.now.setting c.args.from c.requires.room _ c.halves-halves.ensures
    (named-open rules (begins (goal.at.loop-next-init c).After-first) c.first.ensures c.next_move-next.ensures)

pub overflow_add-charge : goal.overflow_add-charge
overflow_add-charge c =
    let k = turn-at c.loop-next.invariant c.in-Some.is in
    omega (
      arith,
      move-sum c.args.minutes.now.setting c.args.from c.requires.room _ c.halves-halves.ensures _ k.some k.move
          (held (goal.at.overflow_add-charge c).In-Some) c.requires.short c.price.result c.price.ensures,
    )

pub relax-requires : goal.relax-requires
relax-requires c =
    let k = turn-at c.loop-next.invariant c.in-Some.is in
    move-ready c.args.minutes.now.setting c.args.from c.requires.room _ c.halves-halves.ensures _ k.some k.move
    (held (goal.at.relax-requires c).In-Some) c.requires.short c.price.result c.price.ensures c.lead-to.result c.lead-to.ensures

pub next_move-next-requires-in-Some : goal.next_move-next-requires-in-Some
next_move-next-requires-in-Some c =
    after-ready c.args.minutes.now.setting.is-rules (there (goal.at.next_move-next-requires-in-Some c).In-Some) c.after.ensures

pub loop-next-smaller : goal.loop-next-smaller
loop-next-smaller c =
    turn-less c.loop-next.invariant c.in-Some.is (next (goal.at.loop-next-smaller c).After-next_move-next-in-Some)

pub loop-next-preserved : goal.loop-next-preserved
loop-next-preserved c =
    let k = turn-at c.loop-next.invariant c.in-Some.is in
    turn-next c.args.minutes.now.setting c.args.from c.requires.room _ c.halves-halves.ensures _ k.some k.move c.requires.short k.moves
    c.price.result c.price.ensures c.lead-to.result c.lead-to.ensures c.relax.ensures
    (next (goal.at.loop-next-preserved c).After-next_move-next-in-Some)

pub returns : goal.returns
returns c =
    turn-all c.args.minutes.now.setting c.args.from c.requires.room _ c.halves-halves.ensures c.loop-next.invariant c.in_default.is

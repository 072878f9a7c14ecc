-- `timetable::walk::tight_move` meets its contract. The loop is at a move that is not passed over, and no edge of those before it is tight.
-- Assumes nothing.
use mathlib.Core.List.{List}
use Prim.Native.Nat.{ℕ}
use native.Mathlib.Omega.{arith}
use Rattle.states.specs.declared.States.{States}
use Rattle.minutes.specs.declared.waits.Source.{Source}
use Rattle.minutes.specs.Edges.{Setting}
use Rattle.rules.specs.Laws.Moves.{no-move}
use Rattle.steps.specs.Leading.{FromMode}
use Rattle.timetable.specs.Steps.{MoveReady}
use Rattle.timetable.proofs.Tightness.{TurnAt, turn-at, turn-next, node-mode, move-room, move-sum, none_first, none-next, move-found, move-none}
use Rattle.timetable.proofs.walk.tight_move.Goals.{In-Some}
use Rattle.timetable.proofs.walk.tight_move.Goals as goal

-- The mode in hand is there.
mode-there :
    {t rs ws : List ℕ} {s : States} {x : Source} {first : ℕ} → Setting t rs s → MoveReady t s x first ws → FromMode t rs x.at.mode first
mode-there set p =
    (set.is-table, set.is-rules, omega (arith, node-mode set p.at-node, p.waited.stands.mode-is), omega (arith, p.few))

pub move_from-next-requires : goal.move_from-next-requires
move_from-next-requires c = (c.args.minutes.now.table.now.bytes, mode-there c.args.minutes.now.setting c.requires)

pub loop-next-init : goal.loop-next-init
loop-next-init c =
    let o = c.move_from-next.ensures c.args.minutes.now.table.now.bytes (mode-there c.args.minutes.now.setting c.requires) in
    record { byte = o.0; named = o.1; move = o.2.move; none-to = none_first c.args.minutes.now.setting c.halves-halves.ensures o.2 }

-- The move in hand.
turn :
    (c : In-Some)
    → TurnAt c.args.minutes.now.table.now.bytes c.args.minutes.now.rules.now c.args.minutes.now.states c.args.from c.args.first c.args.words.now
    c.halves-halves.result c.in-Some.e
turn c = turn-at c.loop-next.invariant c.in-Some.is

pub overflow_add-charge : goal.overflow_add-charge
overflow_add-charge c =
    let p = c.requires in
    let here = turn (goal.at.overflow_add-charge c).In-Some in
    omega (arith, move-sum c.args.minutes.now.setting c.halves-halves.ensures p.at-node p.waited here.some here.move c.price.ensures)

pub reached_at-requires : goal.reached_at-requires
reached_at-requires c =
    let p = c.requires in
    let here = turn (goal.at.reached_at-requires c).In-Some in
    move-room c.args.minutes.now.setting c.halves-halves.ensures p.at-node p.waited here.some here.move c.lead-node.ensures

pub returns-then-reached_at : goal.returns-then-reached_at
returns-then-reached_at c =
    let here = turn (goal.at.returns-then-reached_at c).In-Some in
    move-found c.args.minutes.now.setting c.halves-halves.ensures here.none-to here.some here.move c.lead-node.ensures c.price.ensures c.reached_at.ensures
    c.if-reached_at.true

pub loop-next-preserved : goal.loop-next-preserved
loop-next-preserved c =
    let here = turn (goal.at.loop-next-preserved c).In-Some in
    let o = turn-next here c.args.minutes.now.setting.is-rules c.after.ensures c.next_move-next.ensures in
    record {
      byte = o.0;
      named = o.1;
      move = o.2.move;
      none-to =
          none-next c.args.minutes.now.setting c.halves-halves.ensures here.none-to here.some here.move c.lead-node.ensures c.price.ensures c.reached_at.ensures
          c.if-reached_at.false o.2;
    }

pub returns : goal.returns
returns c =
    let k = c.loop-next.invariant in
    move-none c.args.minutes.now.setting c.halves-halves.ensures k.none-to (no-move k.named c.in_default.is)

-- `steps::by_move` meets its contract. The loop is at a move that is not passed over, and those before it lead nowhere.
-- Assumes nothing.
use mathlib.Core.Path.{sym, ◌∙◌}
use native.Mathlib.Omega.{arith}
use Rattle.space.specs.Space.{place_at}
use Rattle.space.specs.Laws.Images.{images-none}
use Rattle.space.proofs.Settings.{place-half-room}
use Rattle.space.proofs.MovesFrom.{after-ready}
use Rattle.rules.specs.Laws.Moves.{no-move, left-less}
use Rattle.steps.proofs.PassedMoves.{TurnAt, turn-at, turn-next, along-ready, silent-first, silent-next, move-found, moves-none}
use Rattle.steps.proofs.by_move.Goals.{In-Some}
use Rattle.steps.proofs.by_move.Goals as goal

pub halves-halves-requires : goal.halves-halves-requires
halves-halves-requires c =
    let w = c.requires in
    (w.here.corner.valid, place-half-room c.args.corners.now.table.now.bytes w.ready.setting.is-table (place_at c.args.at) w.here.corner.place)

pub loop-next-init : goal.loop-next-init
loop-next-init c =
    let w = c.requires in
    let first =
    c.move_from-next.ensures c.args.corners.now.table.now.bytes
    (w.ready.setting.is-table, c.args.corners.now.setting.is-rules, w.here.corner.place.in-modes, omega (arith, c.if-stand-ge-DELAY.false)) in
    record {
      byte = first.0;
      named = first.1;
      move = first.2.move;
      silent = silent-first c.requires c.args.corners.now.setting.is-rules c.halves-halves.ensures first.2;
      images-are = images-none _;
    }

-- The move in hand.
turn : (c : In-Some) → TurnAt c.args.corners.now.table.now.bytes c.args.corners.now.rules.now c.args.corners.now.space c.args.at c.args.stand
    c.args.words.now c.halves-halves.result c.in-Some.e
turn c = turn-at c.loop-next.invariant c.in-Some.is

pub along_move-step-requires : goal.along_move-step-requires
along_move-step-requires c =
    let here = turn (goal.at.along_move-step-requires c).In-Some in
    along-ready c.requires c.args.corners.now.setting.is-rules c.halves-halves.ensures here.move here.some c.resets.ensures c.image-by_resets.ensures.is

pub returns-then-is_some : goal.returns-then-is_some
returns-then-is_some c =
    let here = turn (goal.at.returns-then-is_some c).In-Some in
    move-found here.silent here.some c.along_move-step.ensures (sym c.is_some.ensures ∙ c.if-is_some.true)

pub next_move-next-requires : goal.next_move-next-requires
next_move-next-requires c =
    let here = turn (goal.at.next_move-next-requires c).In-Some in
    after-ready c.args.corners.now.setting.is-rules (here.move.there here.some) c.after.ensures

pub loop-next-smaller : goal.loop-next-smaller
loop-next-smaller c =
    let here = turn (goal.at.loop-next-smaller c).In-Some in
    let after = turn-next here c.args.corners.now.setting.is-rules c.after.ensures c.next_move-next.ensures in
    rw c.in-Some.is (left-less here.some after.1 (omega (arith, after.2.low)))

pub loop-next-preserved : goal.loop-next-preserved
loop-next-preserved c =
    let here = turn (goal.at.loop-next-preserved c).In-Some in
    let after = turn-next here c.args.corners.now.setting.is-rules c.after.ensures c.next_move-next.ensures in record {
      byte = after.0;
      named = after.1;
      move = after.2.move;
      silent =
          silent-next c.requires c.args.corners.now.setting.is-rules c.halves-halves.ensures here.silent c.along_move-step.ensures
          (sym c.is_some.ensures ∙ c.if-is_some.false) after.2;
      images-are = c.image-by_resets.ensures.images;
    }

pub returns : goal.returns
returns c =
    let turn = c.loop-next.invariant in
    moves-none turn.silent (no-move turn.named c.in_default.is)

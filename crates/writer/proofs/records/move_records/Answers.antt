-- `writer::records::move_records` meets its contract. Assumes nothing.
use mathlib.Core.Path.{◌≡◌}
use Rattle.writer.proofs.Rows.{row_more, row-refused, row-all}
use Rattle.parts.specs.Format.{move_record}
use Rattle.writer.proofs.Said.{move_none, moves_said, moves-many, move-at}
use native.Mathlib.Omega.{arith}
use Rattle.writer.proofs.records.move_records.Goals as goal

pub returns-in_err-move_record : goal.returns-in_err-move_record
returns-in_err-move_record c =
    let a = c.args in
    row-refused 12 (move_record a.modes a.timers) (moves_said a.form.now a.moves) move_none c.loop-i.invariant (omega (arith, moves-many a.form.now a.moves))
    (move-at a.form.now a.moves c.loop-i.i (omega arith)) c.in_err-move_record.ensures c.from_residual.ensures.1

pub loop-i-preserved : goal.loop-i-preserved
loop-i-preserved c =
    let a = c.args in
    row_more 12 (move_record a.modes a.timers) (moves_said a.form.now a.moves) move_none c.loop-i.invariant (omega (arith, moves-many a.form.now a.moves))
    (move-at a.form.now a.moves c.loop-i.i (omega arith)) c.in_ok-move_record.ensures

pub returns : goal.returns
returns c =
    let row = c.loop-i.invariant in
    let a = c.args in
    let many = moves-many a.form.now a.moves in
    let all : c.loop-i.i ≡ a.moves = omega (arith, row.few, many) in
    rw all at (row-all 12 (move_record a.modes a.timers) (moves_said a.form.now a.moves) row (omega (arith, many)))

-- `timetable::timetable_of` meets its contract.
-- Assumes nothing.
use mathlib.Core.Path.{sym, ◌∙◌}
use Rattle.std.proofs.lemmas.Result.{err_from_is_err_and}
use Rattle.table.specs.Refusals.{number}
use Rattle.timetable.proofs.Answering.{table-strict, table-refused, table-found}
use Rattle.timetable.proofs.timetable_of.Goals as goal

pub returns-then-not-is_closed : goal.returns-then-not-is_closed
returns-then-not-is_closed c =
    table-strict c.args.table.now.bytes c.args.words.now c.args.route.now (sym c.is_closed.ensures ∙ c.if-not-is_closed.true)

pub returns-in_err-room : goal.returns-in_err-room
returns-in_err-room c =
    let passed = err_from_is_err_and c.from_residual.result c.from_residual.ensures.1 in
    rw (passed.1, passed.2) (table-refused c.args.table.now.bytes c.args.words.now c.args.route.now (sym c.is_closed.ensures ∙ c.if-not-is_closed.false)
    (number c.in_err-room.field-0.0) (sym c.in_err-room.ensures))

pub returns : goal.returns
returns c =
    table-found c.args.table.now.bytes c.args.words.now c.args.route.now (sym c.is_closed.ensures ∙ c.if-not-is_closed.false) _
    (sym c.in_ok-room.ensures) c.find-answer.ensures c.clear.ensures

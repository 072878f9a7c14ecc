-- `planner::planner_read` meets its contract. Assumes nothing.
use mathlib.Core.Path.{ap}
use Rattle.table.specs.Refusals.{number}
use Rattle.reader.specs.Reading.{told}
use Rattle.planner.proofs.Writing.{fill-refused, fill-accepted}
use Rattle.planner.proofs.planner_read.Goals as goal

pub returns-in-Err : goal.returns-in-Err
returns-in-Err c =
    let a = c.args in
    rw c.from.ensures
    (fill-refused a.table.now a.form.now c.fill.new.form _ c.fill.ensures (number c.in-Err.refusal) (ap told c.in-Err.is))

pub returns-in-Ok : goal.returns-in-Ok
returns-in-Ok c = let a = c.args in fill-accepted a.table.now a.form.now c.fill.new.form _ c.fill.ensures (ap told c.in-Ok.is)

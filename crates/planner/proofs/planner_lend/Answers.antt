-- `planner::planner_lend` meets its contract. Assumes nothing.
use mathlib.Core.Path.{ap}
use Rattle.table.specs.Refusals.{number}
use Rattle.route.specs.Lend.{told_needs}
use Rattle.planner.proofs.Telling.{lend-refused, lend-memory}
use Rattle.planner.proofs.planner_lend.Goals as goal

pub returns-in-Err : goal.returns-in-Err
returns-in-Err c =
    let a = c.args in
    let told =
    lend-refused a.table.now _ c.lend.ensures.needs c.lend.ensures.promise (number c.in-Err.refusal) a.need.now a.room.now (ap told_needs c.in-Err.is) in
    rw c.from.ensures (record { needs = told.0; need = told.1.0; room = told.1.1.0; promise = told.1.1.1 })

pub returns-in-Ok : goal.returns-in-Ok
returns-in-Ok c =
    let a = c.args in
    let m = c.in-Ok.memory in
    let told =
    lend-memory a.table.now _ c.lend.ensures.needs c.lend.ensures.promise a.need.now m.words a.room.now m.route (ap told_needs c.in-Ok.is) in
    record { needs = told.0; need = told.1.0; room = told.1.1.0; promise = told.1.1.1 }

-- `planner::planner_write` meets its contract. Assumes nothing.
use mathlib.Core.Path.{ap}
use Rattle.table.specs.Refusals.{number}
use Rattle.writer.specs.Written.{told}
use Rattle.planner.proofs.Writing.{write-refused, write_bytes}
use Rattle.planner.proofs.planner_write.Goals as goal

pub returns-in-Err : goal.returns-in-Err
returns-in-Err c =
    let a = c.args in
    let q = c.write in
    let same =
    write-refused a.form.now a.destination.now q.new.destination _ q.ensures.outcome q.ensures.layout (number c.in-Err.refusal) a.size.now
    (ap told c.in-Err.is) in
    rw c.from.ensures (record { outcome = same.0; layout = same.1.0; size = same.1.1 })

pub returns-in-Ok : goal.returns-in-Ok
returns-in-Ok c =
    let a = c.args in
    let q = c.write in
    let same =
    write_bytes a.form.now a.destination.now q.new.destination _ q.ensures.outcome q.ensures.layout a.size.now c.in-Ok.n (ap told c.in-Ok.is) in
    record { outcome = same.0; layout = same.1.0; size = same.1.1 }

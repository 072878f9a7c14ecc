-- `planner::planner_timetable` meets its contract. Assumes nothing.
use Rattle.planner.proofs.Answered.{timetable-told}
use Rattle.planner.proofs.planner_timetable.Goals as goal

pub returns : goal.returns
returns c =
    let a = c.args in
    let told =
    timetable-told a.table.now a.words.now a.route.now c.timetable.new.words c.timetable.new.route c.timetable.result c.timetable.ensures.outcome
    c.timetable.ensures.promise a.charge.now a.pairs.now in
    rw (c.tell.ensures.number, c.tell.ensures.charge, c.tell.ensures.count)
    (record { outcome = told.0; charge = told.1.0; pairs = told.1.1.0; promise = told.1.1.1 })

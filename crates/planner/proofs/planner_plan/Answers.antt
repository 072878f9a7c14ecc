-- `planner::planner_plan` meets its contract. Assumes nothing.
use Rattle.planner.proofs.Answered.{route-told}
use Rattle.planner.proofs.planner_plan.Goals as goal

pub returns : goal.returns
returns c =
    let a = c.args in
    let told =
    route-told a.table.now a.words.now a.route.now c.plan.new.words c.plan.new.route c.plan.result c.plan.ensures.outcome c.plan.ensures.demand
    a.charge.now a.steps.now in
    rw (c.tell.ensures.number, c.tell.ensures.charge, c.tell.ensures.count)
    (record { outcome = told.0; charge = told.1.0; steps = told.1.1.0; demand = told.1.1.1 })

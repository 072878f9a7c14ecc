-- `timetable::find` meets its contract.
-- Assumes nothing.
use Rattle.timetable.proofs.Finding.{setting, search-ready, find_none, find-short, walk-ready, find-written}
use Rattle.timetable.proofs.find.Goals as goal

pub invariant_of-goal : goal.invariant_of-goal
invariant_of-goal c = record { setting = setting c.args.table.now.is_table c.requires c.make.ensures c.states_of-states.ensures }

pub search-requires : goal.search-requires
search-requires c = search-ready c.args.table.now.is_table c.requires c.make.ensures c.states_of-states.ensures _

pub returns-in_default : goal.returns-in_default
returns-in_default c =
    find_none c.args.table.now.is_table c.requires c.make.ensures c.states_of-states.ensures c.goal.ensures c.search.ensures c.in_default.is
    c.args.route.now

pub returns-then-route-cost : goal.returns-then-route-cost
returns-then-route-cost c =
    find-short c.args.table.now.is_table c.requires c.make.ensures c.states_of-states.ensures c.goal.ensures c.search.ensures c.in-Some.is
    c.args.route.now c.if-route-cost.true

pub walk-requires : goal.walk-requires
walk-requires c =
    walk-ready c.args.table.now.is_table c.requires c.make.ensures c.states_of-states.ensures c.goal.ensures c.search.ensures c.in-Some.is
    c.args.route.now c.if-route-cost.false

pub returns : goal.returns
returns c =
    find-written c.args.table.now.is_table c.requires c.make.ensures c.states_of-states.ensures c.goal.ensures c.search.ensures c.in-Some.is
    c.args.route.now c.if-route-cost.false c.walk.ensures

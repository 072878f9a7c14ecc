-- `route::read_route` meets its contract.
-- Assumes nothing.
use Rattle.std.specs.Prelude.{Some, None}
use Rattle.near.specs.Near.{IsBest}
use lib.ListN.{length}
use Rattle.table.specs.Held.{automaton_of}
use Rattle.route.proofs.Answering.{best_of, read_none, read_short, walk-ready, read-written}
use Rattle.route.proofs.read_route.Goals.{In-Some}
use Rattle.route.proofs.read_route.Goals as goal

-- The goal's cost.
cost_of : (c : In-Some) → IsBest c.args.nodes (automaton_of c.args.table.now.bytes).goal (length (automaton_of c.args.table.now.bytes).modes)
    c.args.words.now (Some c.in-Some.cost)
cost_of c = best_of c.args.table.now.bytes c.args.nodes c.args.words.now (Some c.in-Some.cost) c.goal.ensures c.modes.ensures c.in-Some.ensures

pub returns-in_default : goal.returns-in_default
returns-in_default c =
    read_none c.requires (best_of c.args.table.now.bytes c.args.nodes c.args.words.now None c.goal.ensures c.modes.ensures c.in_default.ensures) c.args.route.now

pub returns-then-route-cost : goal.returns-then-route-cost
returns-then-route-cost c =
    read_short c.requires (cost_of (goal.at.returns-then-route-cost c).In-Some) c.args.route.now c.if-route-cost.true

pub invariant_of-walk : goal.invariant_of-walk
invariant_of-walk c = record {
  setting =
      (walk-ready c.requires (cost_of (goal.at.invariant_of-walk c).In-Some) c.args.route.now c.if-route-cost.false c.space_of-space.result
      c.space_of-space.ensures).setting;
}

pub walk-requires : goal.walk-requires
walk-requires c =
    walk-ready c.requires (cost_of (goal.at.walk-requires c).In-Some) c.args.route.now c.if-route-cost.false c.space_of-space.result
    c.space_of-space.ensures

pub returns : goal.returns
returns c =
    read-written c.requires (cost_of (goal.at.returns c).In-Some) c.args.route.now c.if-route-cost.false c.space_of-space.result
    c.space_of-space.ensures c.walk.new.words c.walk.new.route c.walk.ensures

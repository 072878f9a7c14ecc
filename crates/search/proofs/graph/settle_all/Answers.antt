-- `graph::settle_all` meets its contract.
-- Assumes nothing.
use Rattle.search.proofs.Turning.{first-room, turn-starts, turn-none, turn-node, node-room, visit-ready, turn-target, settle-ready, turn-next, turn-less}
use Rattle.search.proofs.graph.settle_all.Goals as goal

pub first-requires : goal.first-requires
first-requires g c = first-room c.loop-node.invariant

pub loop-node-init : goal.loop-node-init
loop-node-init g c = turn-starts c.requires

pub charge_of-requires : goal.charge_of-requires
charge_of-requires g c =
    let next = turn-node c.loop-node.invariant c.first.ensures c.in-Some.is in
    node-room c.loop-node.invariant next

pub steps_of-requires : goal.steps_of-requires
steps_of-requires g c =
    let next = turn-node c.loop-node.invariant c.first.ensures c.in-Some.is in
    node-room c.loop-node.invariant next

pub visit-requires : goal.visit-requires
visit-requires g c =
    let next = turn-node c.loop-node.invariant c.first.ensures c.in-Some.is in
    visit-ready c.loop-node.invariant next c.charge_of.ensures c.steps_of.ensures

pub returns-then-visit : goal.returns-then-visit
returns-then-visit g c =
    let next = turn-node c.loop-node.invariant c.first.ensures c.in-Some.is in
    rw (c.visit.ensures.same c.if-visit.true)
    (turn-target c.loop-node.invariant next c.charge_of.ensures c.steps_of.ensures (c.visit.ensures.target.0 c.if-visit.true))

pub settle-requires : goal.settle-requires
settle-requires g c =
    let next = turn-node c.loop-node.invariant c.first.ensures c.in-Some.is in
    rw c.nodes.ensures (settle-ready c.loop-node.invariant next (c.visit.ensures.relaxed c.if-visit.false))

pub loop-node-smaller : goal.loop-node-smaller
loop-node-smaller g c =
    let next = turn-node c.loop-node.invariant c.first.ensures c.in-Some.is in
    turn-less c.loop-node.invariant next (c.visit.ensures.relaxed c.if-visit.false) (rw c.nodes.ensures at c.settle.ensures)

pub loop-node-preserved : goal.loop-node-preserved
loop-node-preserved g c =
    let next = turn-node c.loop-node.invariant c.first.ensures c.in-Some.is in
    turn-next c.loop-node.invariant next (c.visit.ensures.relaxed c.if-visit.false) (rw c.nodes.ensures at c.settle.ensures)

pub returns : goal.returns
returns g c = turn-none c.loop-node.invariant c.first.ensures c.in_default.is

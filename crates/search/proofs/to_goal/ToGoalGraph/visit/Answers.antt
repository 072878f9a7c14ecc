-- `ToGoal` visits a node as the search asks. Assumes nothing.
use Rattle.space.specs.Laws.NodeRegion.{region-ready, corner-at}
use Rattle.search.proofs.Settling.{there, edges-ready, visited-target, visited-node}
use Rattle.search.proofs.to_goal.ToGoalGraph.visit.Goals as goal

pub region_at-at-requires : goal.region_at-at-requires
region_at-at-requires c =
    let g = c.args.self.now in
    region-ready g.corners.setting (there g.corners.setting g.goal c.requires)

pub returns-then-at-self : goal.returns-then-at-self
returns-then-at-self c =
    let g = c.args.self.now in
    let set = g.corners.setting in
    let corner = corner-at set (there set g.goal c.requires) c.region_at-at.result c.region_at-at.ensures in
    visited-target set g.goal c.requires corner c.if-at-self.true

pub relax_edges-requires : goal.relax_edges-requires
relax_edges-requires c =
    let g = c.args.self.now in
    let set = g.corners.setting in
    let corner = corner-at set (there set g.goal c.requires) c.region_at-at.result c.region_at-at.ensures in
    edges-ready set g.goal c.requires corner c.if-at-self.false

pub returns : goal.returns
returns c =
    let g = c.args.self.now in
    let set = g.corners.setting in
    let corner = corner-at set (there set g.goal c.requires) c.region_at-at.result c.region_at-at.ensures in
    visited-node set g.goal c.requires corner c.if-at-self.false c.relax_edges.ensures

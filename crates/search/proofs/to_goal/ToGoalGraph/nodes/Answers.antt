-- `ToGoal` has as many nodes as its graph. Assumes nothing.
use Rattle.search.specs.Laws.Searchable.{size}
use Rattle.search.proofs.to_goal.ToGoalGraph.nodes.Goals as goal

pub returns : goal.returns
returns c = size c.args.self.now.corners.setting c.args.self.now.goal

-- `ToGoal` has as many nodes as its graph. Assumes nothing.
use Rattle.minutes.specs.Laws.Searchable.{size}
use Rattle.minutes.proofs.ToGoalGraph.nodes.Goals as goal

pub returns : goal.returns
returns c = size c.args.self.now.minutes.setting c.args.self.now.goal

-- `ToGoal` says that a state of its mode is a target, and relaxes the pairs of another.
-- Assumes nothing.
use Rattle.minutes.proofs.Settling.{target-visited, pairs-ready, pairs-visited}
use Rattle.minutes.proofs.ToGoalGraph.visit.Goals as goal

pub returns-then-at-self : goal.returns-then-at-self
returns-then-at-self c =
    let set = c.args.self.now.minutes.setting in
    target-visited set c.args.self.now.goal c.requires (c.state_at-at.ensures _ set.is-table set.is-states) c.if-at-self.true

pub relax_pairs-requires : goal.relax_pairs-requires
relax_pairs-requires c =
    let set = c.args.self.now.minutes.setting in
    pairs-ready set c.args.self.now.goal c.requires (c.state_at-at.ensures _ set.is-table set.is-states) c.if-at-self.false

pub returns : goal.returns
returns c =
    let set = c.args.self.now.minutes.setting in
    pairs-visited set c.args.self.now.goal c.requires (c.state_at-at.ensures _ set.is-table set.is-states) c.if-at-self.false c.relax_pairs.ensures

-- `lower` meets its contract. Assumes nothing.
use Rattle.queue.proofs.Storing.{lowered}
use Rattle.queue.proofs.lower.Goals as goal

pub returns : goal.returns
returns c =
    let a = c.args in
    lowered a.nodes a.node a.charge a.steps a.words.now c.requires c.raise.new.words
    c.raise.ensures

-- `minutes::waits::wait` meets its contract.
-- Assumes nothing.
use Rattle.minutes.proofs.Waiting.{wait-done}
use Rattle.minutes.proofs.waits.wait.Goals as goal

pub returns : goal.returns
returns c = wait-done c.args.graph.now.setting c.requires c.rate-rate.result c.rate-rate.ensures c.waited.result c.waited.ensures

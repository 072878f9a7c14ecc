-- `near::best` meets its contract. The loop's invariant: charge and steps are the least of the mode's nodes before this one.
-- Assumes nothing.
use Rattle.near.proofs.Nearest.{Least}
use Rattle.near.proofs.best.Given as goal

abbrev pub invariant-loop-v : goal.invariant-loop-v
invariant-loop-v l = Least l.words l.first l.v l.charge l.steps

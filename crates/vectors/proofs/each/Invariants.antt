-- `vectors::each` meets its contract: each table has two bytes or more of its own.
-- Assumes nothing.
use Rattle.std.proofs.Common.{length}
use Rattle.vectors.proofs.each.Given as goal

abbrev pub decreases-loop-rest : goal.decreases-loop-rest
decreases-loop-rest g l = length l.rest

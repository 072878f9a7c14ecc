-- `plan::read_table` meets its contract: the array has as many bytes as a reader of input has to keep.
-- Assumes nothing.
use native.Mathlib.Omega.{arith}
use Rattle.report.specs.Text.{printed-kept}
use Rattle.plan.proofs.read_table.Goals as goal

pub returns-then-count-eq-KEPT-clause-full : goal.returns-then-count-eq-KEPT-clause-full
returns-then-count-eq-KEPT-clause-full g c = λ rest e. printed-kept c.read_full-count.new.bytes rest (omega arith)

pub returns-else-count-eq-KEPT-clause-full : goal.returns-else-count-eq-KEPT-clause-full
returns-else-count-eq-KEPT-clause-full g c = λ rest e. printed-kept c.read_full-count.new.bytes rest (omega arith)

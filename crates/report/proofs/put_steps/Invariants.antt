-- `report::put_steps` meets its contract. The loop has put the first steps.
-- Assumes nothing.
use lib.ListN.{take}
use Rattle.report.specs.Lines.{step_texts}
use Rattle.report.specs.Put.{Put}
use Rattle.report.proofs.put_steps.Given as goal

abbrev pub invariant-loop-byte : goal.invariant-loop-byte
invariant-loop-byte l = Put (step_texts (take l.byte-index l.route)) l.at l.initial.out l.next l.out

-- `writer::records::ceilings` meets its contract. Assumes nothing.
use Rattle.writer.proofs.Rows.{Row}
use Rattle.parts.specs.Format.{ceiling_byte}
use Rattle.writer.proofs.Said.{ceilings_said}
use Rattle.writer.proofs.records.ceilings.Given as goal

abbrev pub invariant-loop-ceiling : goal.invariant-loop-ceiling
invariant-loop-ceiling l = Row 1 ceiling_byte (ceilings_said l.form l.timers) l.initial.pen l.pen l.ceiling-index

-- `writer::records::conditions` meets its contract. Assumes nothing.
use Rattle.writer.proofs.Rows.{Row}
use Rattle.parts.specs.Format.{condition_part}
use Rattle.writer.proofs.records.conditions.Given as goal

abbrev pub invariant-loop-b : goal.invariant-loop-b
invariant-loop-b l = Row 1 condition_part l.fn.six l.initial.pen l.pen l.b-index

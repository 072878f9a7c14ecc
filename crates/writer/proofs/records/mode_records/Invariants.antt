-- `writer::records::mode_records` meets its contract. Assumes nothing.
use Rattle.writer.proofs.Rows.{Row}
use Rattle.parts.specs.Format.{mode_record}
use Rattle.writer.proofs.Said.{modes_said}
use Rattle.writer.proofs.records.mode_records.Given as goal

abbrev pub invariant-loop-i : goal.invariant-loop-i
invariant-loop-i l = Row 9 (mode_record l.timers) (modes_said l.form l.modes) l.initial.pen l.pen l.i

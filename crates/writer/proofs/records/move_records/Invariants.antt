-- `writer::records::move_records` meets its contract. Assumes nothing.
use Rattle.writer.proofs.Rows.{Row}
use Rattle.parts.specs.Format.{move_record}
use Rattle.writer.proofs.Said.{moves_said}
use Rattle.writer.proofs.records.move_records.Given as goal

abbrev pub invariant-loop-i : goal.invariant-loop-i
invariant-loop-i l = Row 12 (move_record l.modes l.timers) (moves_said l.form l.moves) l.initial.pen l.pen l.i

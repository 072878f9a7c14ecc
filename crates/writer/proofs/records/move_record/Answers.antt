-- `writer::records::move_record` meets its contract. Assumes nothing.
use mathlib.Core.Path.{ap, ◌∙◌}
use Rattle.parts.specs.Compact.{compact}
use Rattle.parts.specs.Theorems.Putting.{byte_then, byte-fault, puts_then, puts-fault}
use Rattle.writer.proofs.Grouping.{MoveGrouped, move-grouped}
use native.Mathlib.Omega.{arith}
use Rattle.writer.proofs.records.move_record.Goals.{After-bits}
use Rattle.writer.proofs.records.move_record.Goals as goal

-- The record's parts as they are written.
grouped : (c : After-bits) → MoveGrouped c.args.form.now c.args.from c.args.modes c.args.timers c.bits.result c.compact-six.result
grouped c =
    let a = c.args in
    move-grouped a.form.now a.from a.modes a.timers c.bits.ensures.byte (c.compact-six.ensures ∙ ap compact c.conditions.ensures)
    c.first_of.ensures c.bits.ensures.is

pub returns-in_err-map_byte : goal.returns-in_err-map_byte
returns-in_err-map_byte c =
    rw (grouped (goal.at.returns-in_err-map_byte c).After-bits) (byte-fault _ c.in_err-map_byte.ensures c.from_residual.ensures.1)

pub returns-in_err-ends : goal.returns-in_err-ends
returns-in_err-ends c =
    rw (grouped (goal.at.returns-in_err-ends c).After-bits)
    (byte_then {b = 11} c.in_ok-map_byte.ensures (omega arith) (puts-fault _ c.in_err-ends.ensures c.from_residual-in_err-ends.ensures.1))

pub returns-in_err-priced : goal.returns-in_err-priced
returns-in_err-priced c =
    rw (grouped (goal.at.returns-in_err-priced c).After-bits)
    (byte_then {b = 11} c.in_ok-map_byte.ensures (omega arith)
    (puts_then {b = 9} c.in_ok-ends.ensures (puts-fault _ c.in_err-priced.ensures c.from_residual-in_err-priced.ensures.1)))

pub returns : goal.returns
returns c =
    rw (grouped (goal.at.returns c).After-bits)
    (byte_then {b = 11} c.in_ok-map_byte.ensures (omega arith)
    (puts_then {b = 9} c.in_ok-ends.ensures (puts_then {b = 2} c.in_ok-priced.ensures c.resets.ensures)))

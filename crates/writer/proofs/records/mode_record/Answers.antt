-- `writer::records::mode_record` meets its contract. Assumes nothing.
use Prim.Native.Nat.{◌+◌}
use mathlib.Core.Path.{ap, ◌∙◌}
use mathlib.Core.Bool.{true}
use lib.ListN.{get_or}
use Rattle.parts.specs.Compact.{compact}
use Rattle.parts.specs.Theorems.Putting.{unless-short, overlays-puts, byte_then, byte-fault, puts_then, puts-fault}
use Rattle.writer.proofs.Grouping.{ModeGrouped, mode-grouped}
use native.Mathlib.Omega.{arith}
use Rattle.writer.proofs.records.mode_record.Goals.{After-bits}
use Rattle.writer.proofs.records.mode_record.Goals as goal

-- The record's parts as they are written.
grouped : (c : After-bits) → ModeGrouped c.args.form.now c.args.from c.args.timers c.bits.result c.compact-six.result
grouped c =
    let a = c.args in
    mode-grouped a.form.now a.from a.timers c.bits.ensures.byte (c.compact-six.ensures ∙ ap compact c.conditions.ensures) c.bits.ensures.is

pub returns-in_err-map_byte : goal.returns-in_err-map_byte
returns-in_err-map_byte c =
    rw (grouped (goal.at.returns-in_err-map_byte c).After-bits) (byte-fault _ c.in_err-map_byte.ensures c.from_residual.ensures.1)

pub returns-in_err-priced : goal.returns-in_err-priced
returns-in_err-priced c =
    rw (grouped (goal.at.returns-in_err-priced c).After-bits)
    (byte_then {b = 8} c.in_ok-map_byte.ensures (omega arith) (puts-fault _ c.in_err-priced.ensures c.from_residual-in_err-priced.ensures.1))

pub returns : goal.returns
returns c =
    rw (grouped (goal.at.returns c).After-bits)
    (byte_then {b = 8} c.in_ok-map_byte.ensures (omega arith)
    (puts_then {b = 1} c.in_ok-priced.ensures (overlays-puts c.amount_byte.ensures (unless-short true 0 (get_or c.args.form.now (c.args.from + 1) 0)))))

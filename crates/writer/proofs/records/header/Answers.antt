-- `writer::records::header` meets its contract. Assumes nothing.
use Rattle.table.specs.Refusals.{number}
use Rattle.parts.specs.Theorems.Putting.{byte_then, byte-fault, overlays-puts}
use Rattle.parts.specs.Format.{header}
use native.Mathlib.Omega.{arith}
use Rattle.writer.proofs.records.header.Goals as goal

pub returns-in_err-counted : goal.returns-in_err-counted
unfolding header
returns-in_err-counted c = byte-fault _ c.in_err-counted.ensures c.from_residual.ensures.1

pub returns-in_err-counted-2 : goal.returns-in_err-counted-2
unfolding header
returns-in_err-counted-2 c =
    byte_then {b = 3} c.in_ok-counted.ensures (omega arith)
    (byte-fault _ c.in_err-counted-2.ensures c.from_residual-in_err-counted-2.ensures.1)

pub checked-requires-2 : goal.checked-requires-2
checked-requires-2 c =
    let first = overlays-puts c.in_ok-counted.ensures (omega arith) in
    let second = overlays-puts c.in_ok-counted-2.ensures (omega arith) in
    let third = overlays-puts (c.in_ok-checked.ensures number (omega arith)) (omega arith) in
    omega (arith, first.few, second.few, third.few)

pub returns-in_err-checked : goal.returns-in_err-checked
unfolding header
returns-in_err-checked c =
    byte_then {b = 3} c.in_ok-counted.ensures (omega arith)
    (byte_then {b = 2} c.in_ok-counted-2.ensures (omega arith)
    (byte-fault _ (c.in_err-checked.ensures number (omega arith)) c.from_residual-in_err-checked.ensures.1))

pub returns : goal.returns
unfolding header
returns c =
    let third = c.in_ok-checked.ensures number (omega arith) in
    let fourth = c.checked-2.ensures number (omega arith) in
    byte_then {b = 3} c.in_ok-counted.ensures (omega arith)
    (byte_then {b = 2} c.in_ok-counted-2.ensures (omega arith) (byte_then {b = 1} third (omega arith) (overlays-puts fourth (omega arith))))

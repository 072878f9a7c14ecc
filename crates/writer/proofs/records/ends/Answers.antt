-- `writer::records::ends` meets its contract. Assumes nothing.
use Rattle.table.specs.Refusals.{number}
use Rattle.parts.specs.Theorems.Putting.{byte_then, overlays-puts}
use native.Mathlib.Omega.{arith}
use Rattle.writer.proofs.records.ends.Goals as goal

pub checked-requires-2 : goal.checked-requires-2
checked-requires-2 c = omega (arith, (overlays-puts (c.in_ok-checked.ensures number (omega arith)) (omega arith)).few)

pub returns : goal.returns
returns c =
    let first = c.in_ok-checked.ensures number (omega arith) in
    let second = c.checked-2.ensures number (omega arith) in
    byte_then {b = 1} first (omega arith) (overlays-puts second (omega arith))

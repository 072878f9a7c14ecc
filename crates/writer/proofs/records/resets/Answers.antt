-- `writer::records::resets` meets its contract. Assumes nothing.
use Prim.Native.Nat.{◌+◌, ◌*◌}
use mathlib.Core.Bool.{true}
use Rattle.parts.specs.Theorems.Putting.{unless-short, overlays-puts, puts_then, reset-put}
use native.Mathlib.Omega.{arith}
use Rattle.writer.proofs.records.resets.Goals as goal

pub returns : goal.returns
returns c =
    let a = c.args in
    puts_then {b = 1}
    (reset-put a.timers a.resets a.high c.names.ensures (omega (arith, c.if-names-resets.false)) c.bit_of.ensures.is
    (overlays-puts c.amount_byte.ensures (unless-short true 0 (a.resets + 128 * c.bit_of.result))))
    (overlays-puts c.amount_byte-2.ensures (unless-short true 0 a.high))

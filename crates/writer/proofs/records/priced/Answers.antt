-- `writer::records::priced` meets its contract. Assumes nothing.
use mathlib.Core.Bool.{true}
use Rattle.parts.specs.Theorems.Putting.{unless-short, byte_then}
use Rattle.writer.proofs.records.priced.Goals as goal

pub returns : goal.returns
returns c = byte_then {b = 6} c.amount_byte.ensures (unless-short true 0 c.args.low) c.conditions.ensures

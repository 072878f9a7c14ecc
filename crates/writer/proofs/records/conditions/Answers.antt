-- `writer::records::conditions` meets its contract. Assumes nothing.
use mathlib.Core.Path.{refl}
use lib.ListN.{get_or}
use Rattle.table.specs.Refusals.{number}
use Rattle.parts.specs.Theorems.Putting.{unless-short, overlays-puts}
use Rattle.parts.specs.Format.{condition_part}
use Rattle.writer.proofs.Rows.{row_more, row-refused}
use native.Mathlib.Omega.{arith}
use Rattle.writer.proofs.records.conditions.Goals as goal

pub returns-in_err-unless_zero : goal.returns-in_err-unless_zero
returns-in_err-unless_zero c =
    let refused = c.in_err-unless_zero.ensures number (omega arith) in
    let byte = overlays-puts refused (unless-short c.between.result 4 (get_or c.args.six c.loop-b.b-index 0)) in
    row-refused 1 condition_part c.args.six 0 c.loop-b.invariant (omega arith) refl (rw c.between.ensures at byte) c.from_residual.ensures.1

pub loop-b-preserved : goal.loop-b-preserved
loop-b-preserved c =
    let left = c.in_ok-unless_zero.ensures number (omega arith) in
    let byte = overlays-puts left (unless-short c.between.result 4 (get_or c.args.six c.loop-b.b-index 0)) in
    row_more 1 condition_part c.args.six 0 c.loop-b.invariant (omega arith) refl (rw c.between.ensures at byte)

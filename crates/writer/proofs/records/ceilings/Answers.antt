-- `writer::records::ceilings` meets its contract. Assumes nothing.
use Prim.Native.Nat.{◌+◌, ◌-◌}
use mathlib.Core.Path.{◌≡◌}
use Rattle.parts.specs.Theorems.Putting.{overlays-puts}
use Rattle.parts.specs.Format.{ceiling_byte}
use Rattle.writer.proofs.Rows.{row_more, row-refused, row-all}
use Rattle.writer.proofs.Said.{ceilings_said, ceilings-many, ceiling-at}
use native.Mathlib.Omega.{arith}
use Rattle.writer.proofs.records.ceilings.Goals as goal

pub returns-in_err-counted : goal.returns-in_err-counted
returns-in_err-counted c =
    let a = c.args in
    row-refused 1 ceiling_byte (ceilings_said a.form.now a.timers) 0 c.loop-ceiling.invariant (omega (arith, ceilings-many a.form.now a.timers))
    (ceiling-at a.form.now a.timers c.loop-ceiling.ceiling-index (omega arith) (4 + a.timers - 4) (omega arith))
    (overlays-puts c.in_err-counted.ensures (omega arith)) c.from_residual.ensures.1

pub loop-ceiling-preserved : goal.loop-ceiling-preserved
loop-ceiling-preserved c =
    let a = c.args in
    row_more 1 ceiling_byte (ceilings_said a.form.now a.timers) 0 c.loop-ceiling.invariant (omega (arith, ceilings-many a.form.now a.timers))
    (ceiling-at a.form.now a.timers c.loop-ceiling.ceiling-index (omega arith) (4 + a.timers - 4) (omega arith))
    (overlays-puts c.in_ok-counted.ensures (omega arith))

pub returns : goal.returns
returns c =
    let row = c.loop-ceiling.invariant in
    let a = c.args in
    let many = ceilings-many a.form.now a.timers in
    let all : c.loop-ceiling.ceiling-index ≡ a.timers = omega (arith, row.few, many) in
    rw all at (row-all 1 ceiling_byte (ceilings_said a.form.now a.timers) row (omega (arith, many)))

-- `writer::records::mode_records` meets its contract. Assumes nothing.
use mathlib.Core.Path.{◌≡◌}
use Rattle.writer.proofs.Rows.{row_more, row-refused, row-all}
use Rattle.parts.specs.Format.{mode_record}
use Rattle.writer.proofs.Said.{mode_none, modes_said, modes-many, mode-at}
use native.Mathlib.Omega.{arith}
use Rattle.writer.proofs.records.mode_records.Goals as goal

pub returns-in_err-mode_record : goal.returns-in_err-mode_record
returns-in_err-mode_record c =
    let a = c.args in
    row-refused 9 (mode_record a.timers) (modes_said a.form.now a.modes) mode_none c.loop-i.invariant (omega (arith, modes-many a.form.now a.modes))
    (mode-at a.form.now a.modes c.loop-i.i (omega arith)) c.in_err-mode_record.ensures c.from_residual.ensures.1

pub loop-i-preserved : goal.loop-i-preserved
loop-i-preserved c =
    let a = c.args in
    row_more 9 (mode_record a.timers) (modes_said a.form.now a.modes) mode_none c.loop-i.invariant (omega (arith, modes-many a.form.now a.modes))
    (mode-at a.form.now a.modes c.loop-i.i (omega arith)) c.in_ok-mode_record.ensures

pub returns : goal.returns
returns c =
    let row = c.loop-i.invariant in
    let a = c.args in
    let many = modes-many a.form.now a.modes in
    let all : c.loop-i.i ≡ a.modes = omega (arith, row.few, many) in
    rw all at (row-all 9 (mode_record a.timers) (modes_said a.form.now a.modes) row (omega (arith, many)))

-- `writer::records::table` meets its contract. Assumes nothing.
use Prim.Native.Nat.{◌+◌, ◌*◌, ◌≤◌}
use lib.ListN.{get_or}
use Rattle.parts.specs.Theorems.Putting.{puts_then, puts-fault, puts-wide, holds-on-ok}
use Rattle.writer.proofs.Said.{table-said, counts}
use native.Mathlib.Omega.{arith}
use Rattle.writer.proofs.records.table.Goals as goal

pub returns-in_err-header : goal.returns-in_err-header
returns-in_err-header c = rw (table-said c.args.form.now) (puts-fault _ c.in_err-header.ensures c.from_residual.ensures.1)

pub ceilings-requires : goal.ceilings-requires
ceilings-requires c = let r = counts c.args.form.now c.in_ok-header.ensures.fault in (r.2, omega (arith, c.in_ok-header.ensures.few))

pub returns-in_err-ceilings : goal.returns-in_err-ceilings
returns-in_err-ceilings c =
    rw (table-said c.args.form.now)
    (puts_then {b = 915} c.in_ok-header.ensures (puts-fault _ c.in_err-ceilings.ensures c.from_residual-in_err-ceilings.ensures.1))

pub mode_records-requires : goal.mode_records-requires
mode_records-requires c =
    let r = counts c.args.form.now c.in_ok-header.ensures.fault in
    (r.2, r.1, omega (arith, r, c.in_ok-header.ensures.few, c.in_ok-ceilings.ensures.few))

pub returns-in_err-mode_records : goal.returns-in_err-mode_records
returns-in_err-mode_records c =
    let form = c.args.form.now in
    let r = counts form c.in_ok-header.ensures.fault in
    let fits : 4 + (1 * get_or form 1 0 + 0) ≤ 919 = omega (arith, r) in
    rw (table-said form)
    (puts-wide (puts_then c.in_ok-header.ensures
    (puts_then {b = 0} c.in_ok-ceilings.ensures (puts-fault _ c.in_err-mode_records.ensures c.from_residual-in_err-mode_records.ensures.1)))
    (holds-on-ok _ fits))

pub move_records-requires : goal.move_records-requires
move_records-requires c =
    let r = counts c.args.form.now c.in_ok-header.ensures.fault in
    (r.2, r.3, omega (arith, r, c.in_ok-header.ensures.few, c.in_ok-ceilings.ensures.few, c.in_ok-mode_records.ensures.few))

pub returns : goal.returns
returns c =
    let form = c.args.form.now in
    let r = counts form c.in_ok-header.ensures.fault in
    let fits : 4 + (1 * get_or form 1 0 + (9 * get_or form 0 0 + 12 * get_or form 2 0)) ≤ 919 = omega (arith, r) in
    rw (table-said form)
    (puts-wide (puts_then c.in_ok-header.ensures
    (puts_then c.in_ok-ceilings.ensures (puts_then c.in_ok-mode_records.ensures c.move_records.ensures)))
    (holds-on-ok _ fits))

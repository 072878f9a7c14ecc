-- `form::fill` meets its contract. Assumes nothing.
use native.Mathlib.Omega.{arith}
use mathlib.Core.Path.{refl}
use Rattle.std.proofs.lemmas.Result.{err_from_is_err_and}
use Rattle.table.specs.Refusals.{number}
use Rattle.reader.specs.Theorems.Accepted.{accepted-table, accepted-read, rejected-read}
use Rattle.form.proofs.Filling.{filled-refused, filled-accepted}
use Rattle.form.proofs.fill.Goals as goal

pub returns-in_err-read : goal.returns-in_err-read
returns-in_err-read c =
    let bytes = c.args.bytes.now in
    let passed = err_from_is_err_and c.from_residual.result c.from_residual.ensures.1 in
    rw (passed.1, passed.2)
    (filled-refused bytes c.args.form.now (number c.in_err-read.field-0.0) (rejected-read bytes _ _ c.in_err-read.ensures _ refl))

pub invariant_of-table : goal.invariant_of-table
invariant_of-table c =
    record { is_table = accepted-table c.args.bytes.now c.read.new.table _ (λ i. omega (arith, c.type_inv.bytes i)) c.in_ok-read.ensures refl }

pub returns : goal.returns
returns c =
    let read = accepted-read c.args.bytes.now c.read.new.table _ (λ i. omega (arith, c.type_inv.bytes i)) c.in_ok-read.ensures refl in
    filled-accepted c.args.bytes.now c.args.form.now c.read.new.table read c.fill_from.ensures

-- `route::lend` meets its contract. Assumes nothing.
use native.Mathlib.Omega.{arith}
use mathlib.Core.Path.{refl, ◌∙◌}
use Rattle.std.proofs.lemmas.Result.{err_from_is_err_and}
use Rattle.table.specs.Refusals.{number}
use Rattle.reader.specs.Theorems.Accepted.{accepted-table, accepted-read, rejected-read}
use Rattle.route.proofs.Lending.{needed-refused, needed-accepted, needs-enough}
use Rattle.route.proofs.lend.Goals as goal

pub returns-in_err-read : goal.returns-in_err-read
returns-in_err-read c =
    let bytes = c.args.bytes.now in
    let passed = err_from_is_err_and c.from_residual.result c.from_residual.ensures.1 in
    let e = needed-refused bytes (number c.in_err-read.field-0.0) (rejected-read bytes _ _ c.in_err-read.ensures _ refl) in
    rw (passed.1, passed.2) (record { needs = e; promise = needs-enough bytes _ e })

pub invariant_of-table : goal.invariant_of-table
invariant_of-table c =
    record { is_table = accepted-table c.args.bytes.now c.read.new.table _ (λ i. omega (arith, c.type_inv.bytes i)) c.in_ok-read.ensures refl }

pub returns : goal.returns
returns c =
    let bytes = c.args.bytes.now in
    let read = accepted-read bytes c.read.new.table _ (λ i. omega (arith, c.type_inv.bytes i)) c.in_ok-read.ensures refl in
    let e = c.memory_of.ensures ∙ needed-accepted bytes c.read.new.table read in
    record { needs = e; promise = needs-enough bytes _ e }

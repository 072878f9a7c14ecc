-- `writer::write` meets its contract. Assumes nothing.
use Prim.Native.Nat.{ℕ}
use mathlib.Core.Path.{refl, ap}
use mathlib.Core.List.{List, ◌++◌}
use lib.ListN.{drop}
use Rattle.std.proofs.lemmas.Result.{err_from_is_err_and}
use Rattle.writer.proofs.Placing.{write-refused, write-short, write-fits, write-lays}
use native.Mathlib.Omega.{arith}
use Rattle.writer.proofs.write.Goals as goal

pub returns-in_err-table : goal.returns-in_err-table
returns-in_err-table c =
    let a = c.args in
    let passed = err_from_is_err_and c.from_residual.result c.from_residual.ensures.1 in
    rw (passed.1, passed.2) (record { outcome = write-refused a.form.now a.destination.now refl c.in_err-table.ensures; layout = tt })

pub returns-then-destination-n-clause-outcome : goal.returns-then-destination-n-clause-outcome
returns-then-destination-n-clause-outcome c =
    let a = c.args in
    write-short a.form.now a.destination.now refl c.in_ok-table.ensures c.if-destination-n.true

pub returns : goal.returns
returns c =
    let form = c.args.form.now in
    let d = c.args.destination.now in
    let copied = ap (λ (l : List ℕ). l ++ drop c.table.new.pen.at d) c.copy_from_slice.ensures.after in
    record {
      outcome = write-fits form d refl c.in_ok-table.ensures (omega arith) copied;
      layout = write-lays form d refl c.in_ok-table.ensures copied;
    }

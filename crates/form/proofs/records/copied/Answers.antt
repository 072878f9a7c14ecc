-- `form::records::copied` meets its contract. Assumes nothing.
use Prim.Native.Nat.{◌+◌, ◌-◌}
use mathlib.Core.Path.{◌≡◌}
use Rattle.form.proofs.Filling.{copied-slice}
use native.Mathlib.Omega.{arith}
use Rattle.form.proofs.records.copied.Goals as goal

pub returns : goal.returns
returns c =
    let a = c.args in
    let there : a.at + a.n - a.at ≡ a.n = omega arith in
    let taken : a.from + a.n - a.from ≡ a.n = omega arith in
    rw there (copied-slice a.form.now a.table.now a.at a.from a.n (omega arith) (omega arith) (rw taken at c.copy_from_slice.ensures.after))
